use Rattle.worked_extractor.proofs.ExtractorCases.{extractor-cases}
use Rattle.worked_extractor.proofs.extractor_cases.Goals as goal

pub returns : goal.returns
returns c = extractor-cases
