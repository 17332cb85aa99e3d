use Prim.Native.Nat.{ℕ}
use mathlib.Core.List.{List, [], ◌∷◌, ◌++◌}
use mathlib.Core.Path.{sym, ap, ◌∙◌}
use Rattle.std.specs.Prelude.{Ok}
use Rattle.std.proofs.lemmas.Result.{err_from_is_err_and}
use Rattle.proto_field.specs.Value.{bytes_of}
use Rattle.proto_schema.specs.Schema.{locale_field, version_name_field}
use Rattle.proto_strings.specs.Texts.{or_text, fault_from}
use Rattle.msg_apply_writer.specs.Information.{present, components_strings}
use Rattle.proto_strings.proofs.Texts.{fault-stays}
use Rattle.msg_apply_writer.proofs.Texts.{firmware-fine, strings-rest}
use Rattle.msg_apply_writer.proofs.Ascii.{ascii-firmware}
use Rattle.msg_apply_writer.proofs.information.firmware_fault.Goals as goal

pub returns-then-all_ascii : goal.returns-then-all_ascii
returns-then-all_ascii c =
    sym (ascii-firmware c.args.texts.now ((λ i. (c.shared_slice_known-1.given i).fits), c.all_ascii.ensures c.if-all_ascii.true) c.args.information)

pub check_text_part-requires : goal.check_text_part-requires
check_text_part-requires c = (firmware-fine c.args.texts.now c.args.information c.requires).name

pub shared_ref_as_front-components_fault : goal.shared_ref_as_front-components_fault
shared_ref_as_front-components_fault c = (firmware-fine c.args.texts.now c.args.information c.requires).most

pub components_fault-requires : goal.components_fault-requires
components_fault-requires c = (firmware-fine c.args.texts.now c.args.information c.requires).components

pub check_text_part-requires-2 : goal.check_text_part-requires-2
check_text_part-requires-2 c = (firmware-fine c.args.texts.now c.args.information c.requires).locale

pub check_text_part-requires-3 : goal.check_text_part-requires-3
check_text_part-requires-3 c = (firmware-fine c.args.texts.now c.args.information c.requires).version-name

pub returns-in_err-check_text_part : goal.returns-in_err-check_text_part
returns-in_err-check_text_part c =
    let i = c.args.information in
    let t = c.args.texts.now in
    let rest : List (ℕ × List ℕ) = components_strings t (present i) ++ ((locale_field, bytes_of t i.locale) ∷ (version_name_field, bytes_of t i.version_name) ∷ []) in
    let p = err_from_is_err_and c.from_residual.result c.from_residual.ensures.1 in
    rw (p.1, p.2) (fault-stays _ rest ∙ ap (λ x. fault_from x rest) c.in_err-check_text_part.ensures)

pub returns-in_err-components_fault : goal.returns-in_err-components_fault
returns-in_err-components_fault c =
    let i = c.args.information in
    let t = c.args.texts.now in
    let ends : List (ℕ × List ℕ) = (locale_field, bytes_of t i.locale) ∷ (version_name_field, bytes_of t i.version_name) ∷ [] in
    let p = err_from_is_err_and c.from_residual-in_err-components_fault.result c.from_residual-in_err-components_fault.ensures.1 in
    rw (p.1, p.2) (fault-stays _ ends ∙ strings-rest t i _ c.in_ok-check_text_part.ensures c.in_err-components_fault.ensures)

pub returns-in_err-check_text_part-2 : goal.returns-in_err-check_text_part-2
returns-in_err-check_text_part-2 c =
    let i = c.args.information in
    let t = c.args.texts.now in
    let last : List (ℕ × List ℕ) = (version_name_field, bytes_of t i.version_name) ∷ [] in
    let p = err_from_is_err_and c.from_residual-in_err-check_text_part-2.result c.from_residual-in_err-check_text_part-2.ensures.1 in
    rw (p.1, p.2) (fault-stays _ last ∙ ap (λ x. fault_from x last) c.in_err-check_text_part-2.ensures ∙ strings-rest t i (Ok tt) c.in_ok-check_text_part.ensures c.in_ok-components_fault.ensures)

pub returns : goal.returns
returns c =
    let i = c.args.information in
    let t = c.args.texts.now in
    c.check_text_part-3.ensures ∙ ap (or_text version_name_field (bytes_of t i.version_name)) c.in_ok-check_text_part-2.ensures
    ∙ strings-rest t i (Ok tt) c.in_ok-check_text_part.ensures c.in_ok-components_fault.ensures
