use Rattle.std.proofs.Common.{ap, ◌∙◌}
use Rattle.elf_loader.specs.inner.Code.{word_at}
use Rattle.constant_time.specs.PathMarks.{shows_as}
use Rattle.path_marks.specs.State.{next_shown}
use Rattle.path_marks.proofs.Words.{shown_there}
use Rattle.path_marks.proofs.marked.MarkedPath.shown.Goals as goal

pub returns-then-shows_as : goal.returns-then-shows_as
returns-then-shows_as c =
    let s = c.self.inside.isa.hart in
    let shows = c.if-shows_as.ensures s ∙ ap (λ r. shows_as c.kind_of-kind.result (record s { regs = r }) c.in_ok-instr.instr c.self.inside.regs) c.regs.ensures in
    shown_there (word_at c.self.inside.isa.code s.pc) s c.self.inside.regs _ _ _ c.in_ok-instr.ensures c.kind_of-kind.ensures shows ∙ ap next_shown c.self.view_is

pub returns-else-shows_as : goal.returns-else-shows_as
returns-else-shows_as c =
    let s = c.self.inside.isa.hart in
    let shows = c.if-shows_as.ensures s ∙ ap (λ r. shows_as c.kind_of-kind.result (record s { regs = r }) c.in_ok-instr.instr c.self.inside.regs) c.regs.ensures in
    shown_there (word_at c.self.inside.isa.code s.pc) s c.self.inside.regs _ _ _ c.in_ok-instr.ensures c.kind_of-kind.ensures shows ∙ ap next_shown c.self.view_is
