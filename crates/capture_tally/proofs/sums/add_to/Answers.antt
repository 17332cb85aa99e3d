-- The numbers of the streams that stay are within 64 bits already, so the one sum decides.
use mathlib.Core.Path.{◌≡◌}
use mathlib.Core.Bool.{true}
use borrow.Author.Rules.{rules}
use Rattle.capture_report.specs.declared.CostReport.{CostReport}
use Rattle.capture_report.specs.Report.{costs_plus, costs_fit}
use Rattle.capture_tally.proofs.Fitting.{fits-already, sum-fits, on-control, on-ota, on-alexa, on_none}
use Rattle.capture_tally.proofs.sums.add_to.Goals.{Start}
use Rattle.capture_tally.proofs.sums.add_to.Goals as goal

record Inside (r : CostReport) : Type 0 where
  control-fits : costs_fit r.control ≡ true
  ota-fits : costs_fit r.ota ≡ true
  alexa-fits : costs_fit r.alexa ≡ true

inside : (c : Start) → Inside c.args.report
inside c =
    record {
      control-fits = fits-already _ (search rules) (search rules) (search rules) (search rules) (search rules) (search rules) (search rules);
      ota-fits = fits-already _ (search rules) (search rules) (search rules) (search rules) (search rules) (search rules) (search rules);
      alexa-fits = fits-already _ (search rules) (search rules) (search rules) (search rules) (search rules) (search rules) (search rules);
    }

pub returns-in_default : goal.returns-in_default
returns-in_default c =
    let i = inside (goal.at.returns-in_default c).Start in
    rw c.in_default.is (on_none c.args.report c.args.more i.control-fits i.ota-fits i.alexa-fits)

pub returns-in_ok-add_costs-in-Control : goal.returns-in_ok-add_costs-in-Control
returns-in_ok-add_costs-in-Control c =
    let i = inside (goal.at.returns-in_ok-add_costs-in-Control c).Start in
    let r = c.args.report in
    let more = c.args.more in
    let s = sum-fits (costs_fit (costs_plus r.control more)) (costs_plus r.control more) c.in_ok-add_costs-in-Control.field-0 c.add_costs.result
    c.add_costs.ensures c.in_ok-add_costs-in-Control.was in
    rw (c.in-Some.is, c.in-Control.is, s.1) (on-control r more i.control-fits i.ota-fits i.alexa-fits true s.0)

pub returns-in_ok-add_costs-in-Ota : goal.returns-in_ok-add_costs-in-Ota
returns-in_ok-add_costs-in-Ota c =
    let i = inside (goal.at.returns-in_ok-add_costs-in-Ota c).Start in
    let r = c.args.report in
    let more = c.args.more in
    let s = sum-fits (costs_fit (costs_plus r.ota more)) (costs_plus r.ota more) c.in_ok-add_costs-in-Ota.field-0 c.add_costs-in-Ota.result
    c.add_costs-in-Ota.ensures c.in_ok-add_costs-in-Ota.was in
    rw (c.in-Some.is, c.in-Ota.is, s.1) (on-ota r more i.control-fits i.ota-fits i.alexa-fits true s.0)

pub returns-in_ok-add_costs-in-Alexa : goal.returns-in_ok-add_costs-in-Alexa
returns-in_ok-add_costs-in-Alexa c =
    let i = inside (goal.at.returns-in_ok-add_costs-in-Alexa c).Start in
    let r = c.args.report in
    let more = c.args.more in
    let s = sum-fits (costs_fit (costs_plus r.alexa more)) (costs_plus r.alexa more) c.in_ok-add_costs-in-Alexa.field-0 c.add_costs-in-Alexa.result
    c.add_costs-in-Alexa.ensures c.in_ok-add_costs-in-Alexa.was in
    rw (c.in-Some.is, c.in-Alexa.is, s.1) (on-alexa r more i.control-fits i.ota-fits i.alexa-fits true s.0)
