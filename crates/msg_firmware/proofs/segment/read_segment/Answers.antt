use mathlib.Core.Path.{sym}
use Prim.Native.Nat.{zero-le}
use Rattle.proto_schema.specs.declared.Schema.TheVariants as Schema
use Rattle.proto_schema.specs.Schema.{first, second}
use Rattle.proto_field.proofs.Places.{within-get}
use Rattle.proto_reader.specs.Gathered.{no_part}
use Rattle.proto_reader.specs.Refusal.{Strings}
use Rattle.proto_reader.proofs.Strings.{text-get}
use Rattle.proto_reader.proofs.Steps.{fields_within}
use Rattle.msg_firmware.specs.Segment.{segment_made, segment_parts}
use Rattle.msg_firmware.proofs.segment.read_segment.Goals.{In_ok-gathered}
use Rattle.msg_firmware.proofs.segment.read_segment.Goals as goal

-- the segment's strings lie within the message and are well formed
inside : (c : In_ok-gathered) → Strings c.args.message.now (segment_parts (segment_made c.in_ok-gathered.gathered))
inside c =
    let texts = c.in_ok-gathered.gathered.texts in
    let all = fields_within Schema.Segment _ 0 _ (sym c.in_ok-gathered.ensures) in
    let each = all.0.1 in
    ((within-get _ texts first no_part zero-le each, (within-get _ texts second no_part zero-le each, tt)), (text-get _ texts first all.2, (text-get _ texts second all.2, tt)))

pub of-signature-requires : goal.of-signature-requires
of-signature-requires c = rw c.segment_made-segment.ensures (inside (goal.at.of-signature-requires c).In_ok-gathered).0.1.0

pub returns-in-None-clause-tells_strings : goal.returns-in-None-clause-tells_strings
returns-in-None-clause-tells_strings c = rw c.segment_made-segment.ensures (inside (goal.at.returns-in-None-clause-tells_strings c).In_ok-gathered)
