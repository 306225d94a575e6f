use Rattle.elf_loader.specs.Faults.{program_header_fault}
use Rattle.std.proofs.Common.{sym, arith}
use Rattle.elf_loader.proofs.Searching.{first_skip, first_found, first_none}
use Rattle.elf_loader.proofs.headers.program_headers_fault.Goals as goal

pub returns-in-Some : goal.returns-in-Some
returns-in-Some c = sym (first_found (program_header_fault c.args.file.now) _ _ _ c.in-Some.fault c.loop-i-test.true (sym c.in-Some.ensures) c.loop-i.invariant)

pub loop-i-preserved : goal.loop-i-preserved
loop-i-preserved c = first_skip (program_header_fault c.args.file.now) _ _ _ c.loop-i-test.true (sym c.in_default.ensures) c.loop-i.invariant

pub returns : goal.returns
returns c = sym (first_none (program_header_fault c.args.file.now) c.loop-i.i c.args.count _ (omega arith) c.loop-i.invariant)
