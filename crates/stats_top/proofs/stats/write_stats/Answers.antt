-- What is told is the lines on the way, the lines of the numbers, and the last line.
use Rattle.std.proofs.Common.{◌∙◌, ap, option_map}
use Rattle.std.proofs.lemmas.Result.{MatchResult-from_err}
use Rattle.elf_loader.specs.inner.Code.{word_at}
use Rattle.stats_top.proofs.Texts.{way_alone, stats_whole, stats_cut}
use Rattle.stats_top.proofs.stats.write_stats.Goals as goal

pub returns-in_err-numbers : goal.returns-in_err-numbers
returns-in_err-numbers g c =
    MatchResult-from_err _ _ _ c.from_residual.ensures.0
    (λ _. way_alone (option_map (λ k. k.cycles) c.args.every) c.args.core.now.desc (word_at c.args.core.now.code) c.args.cycles c.args.core.now.machine _ _
    c.in_err-numbers.ensures)

pub returns : goal.returns
returns g c = (
  stats_whole (option_map (λ k. k.cycles) c.args.every) c.args.core.now.desc (word_at c.args.core.now.code) c.args.cycles c.args.core.now.machine _ _ _ _ _ _
      c.in_ok-numbers.ensures.0 c.in_ok-numbers.ensures.1 c.ending_at.ensures c.in_ok-write_last.ensures,
  c.end.ensures ∙ ap (λ m. m.end) c.in_ok-numbers.ensures.0.last,
)

pub returns-in_err-write_last : goal.returns-in_err-write_last
returns-in_err-write_last g c =
    MatchResult-from_err _ _ _ c.from_residual-in_err-write_last.ensures.0
    (λ _. stats_cut (option_map (λ k. k.cycles) c.args.every) c.args.core.now.desc (word_at c.args.core.now.code) c.args.cycles c.args.core.now.machine _ _ _ _ _ _
    c.in_ok-numbers.ensures.0 c.in_ok-numbers.ensures.1 c.ending_at.ensures c.in_err-write_last.ensures)
