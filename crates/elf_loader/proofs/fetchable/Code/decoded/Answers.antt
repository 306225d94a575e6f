use Rattle.std.proofs.Common.{ap, None, ◌-◌, ◌/◌, ◌∙◌, arith}
use Rattle.std.proofs.lemmas.List.{get_or_read}
use Rattle.elf_loader.specs.inner.Code.{CodeText, instr_at, decoded_instr}
use Rattle.elf_loader.proofs.Decoding.{instr_there}
use Rattle.elf_loader.proofs.fetchable.Code.decoded.Goals as goal

pub returns : goal.returns
returns c =
    let code : CodeText = record { base = c.self.inside.base; words = c.self.inside.words.items } in
    let decoded = c.self.inside.decoded.items in
    let place = (c.args.pc - c.self.inside.base) / 4 in
    let read = get_or_read decoded place c.index.result.now (omega (arith, c.if-place-len.false, c.len.ensures, c.self.inside.decoded.ok.0)) c.index.ensures None in
    ap decoded_instr read
    ∙ instr_there code decoded c.args.pc (omega (arith, c.if-pc-ne0.false)) (omega (arith, c.if-pc-self.false)) c.self.invariant.2
    ∙ ap (λ (x : CodeText). instr_at x c.args.pc) c.self.view_is
