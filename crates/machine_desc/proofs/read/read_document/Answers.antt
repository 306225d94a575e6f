use Rattle.std.proofs.Common.{ℕ, Result, ap, sym, ◌∙◌}
use Rattle.toml.specs.View.{table_view}
use Rattle.machine_desc.specs.declared.fault.DescFault.{DescFault}
use Rattle.machine_desc.specs.Description.{contents_by}
use Rattle.machine_desc.proofs.Faultless.{clean_from_checked, none_from_checked}
use Rattle.machine_desc.proofs.Settings.{contents_are, no_model, no_defence}
use Rattle.machine_desc.proofs.Versions.{is_known}
use Rattle.machine_desc.proofs.read.read_document.Goals as goal

pub desc-requires-clause-known : goal.desc-requires-clause-known
desc-requires-clause-known c = is_known (table_view c.args.document.now) _ (sym c.version.ensures ∙ c.in_ok-version.was)

pub desc-requires-clause-clean : goal.desc-requires-clause-clean
desc-requires-clause-clean c = clean_from_checked _ _ (sym c.check_document.ensures ∙ c.in_ok-check_document.was)

pub desc-requires-clause-model : goal.desc-requires-clause-model
desc-requires-clause-model c = sym c.model.ensures ∙ c.in_ok-stt_model.was

pub desc-requires-clause-defence : goal.desc-requires-clause-defence
desc-requires-clause-defence c = sym c.defence.ensures ∙ c.in_ok-stt_defence.was

pub returns-in_err-stt_model-clause-err : goal.returns-in_err-stt_model-clause-err
returns-in_err-stt_model-clause-err c =
    let faultless = none_from_checked _ (sym c.check_document.ensures ∙ c.in_ok-check_document.was) in
    absurd (no_model c.in_ok-version.version (table_view c.args.document.now) _ faultless (sym c.model.ensures ∙ c.in_err-stt_model.was))

pub returns-in_err-stt_defence-clause-err : goal.returns-in_err-stt_defence-clause-err
returns-in_err-stt_defence-clause-err c =
    let faultless = none_from_checked _ (sym c.check_document.ensures ∙ c.in_ok-check_document.was) in
    absurd (no_defence c.in_ok-version.version (table_view c.args.document.now) _ faultless (sym c.defence.ensures ∙ c.in_err-stt_defence.was))

pub returns-clause-ok : goal.returns-clause-ok
returns-clause-ok c =
    let faultless = none_from_checked _ (sym c.check_document.ensures ∙ c.in_ok-check_document.was) in
    ap (λ (v : Result ℕ DescFault). contents_by v (table_view c.args.document.now)) (sym c.version.ensures ∙ c.in_ok-version.was)
    ∙ contents_are c.in_ok-version.version (table_view c.args.document.now) c.desc.result faultless c.desc.ensures.version c.desc.ensures.keys
