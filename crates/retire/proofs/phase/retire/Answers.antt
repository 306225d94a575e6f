-- At each exit no turn is left, and each turn of the loop is one head more.
use Rattle.std.proofs.Common.{ap, sym, ◌∙◌, Some, arith}
use Rattle.machine_desc.specs.declared.Desc.{Desc}
use Rattle.retire.proofs.Leaving.{Over, ready, retires_start, retires_more, head_inside, over_last, over_waits, over_traps, over_ends, tell_room}
use Rattle.retire.proofs.phase.retire.Given as given
use Rattle.retire.proofs.phase.retire.Goals as goal

pub loop-init : goal.loop-init
loop-init g c = retires_start _ _ (ready _ _ c.requires.empty c.requires.call_alone c.requires.stores_fit)

-- ---- the phase ends at a head that waits

pub returns-in-Waits-clause-state : goal.returns-in-Waits-clause-state
returns-in-Waits-clause-state g c =
    (over_waits _ _ _ _ _ c.loop.invariant (ready _ _ c.requires.empty c.requires.call_alone c.requires.stores_fit) (sym c.turn_at.ensures.turn ∙ c.in-Waits.is)).state

pub returns-in-Waits-clause-row : goal.returns-in-Waits-clause-row
returns-in-Waits-clause-row g c =
    (over_waits _ _ _ _ _ c.loop.invariant (ready _ _ c.requires.empty c.requires.call_alone c.requires.stores_fit) (sym c.turn_at.ensures.turn ∙ c.in-Waits.is)).row

pub returns-in-Waits-clause-piece : goal.returns-in-Waits-clause-piece
returns-in-Waits-clause-piece g c =
    (over_waits _ _ _ _ _ c.loop.invariant (ready _ _ c.requires.empty c.requires.call_alone c.requires.stores_fit) (sym c.turn_at.ensures.turn ∙ c.in-Waits.is)).piece

pub returns-in-Waits-clause-may_retire : goal.returns-in-Waits-clause-may_retire
returns-in-Waits-clause-may_retire g c =
    (over_waits _ _ _ _ _ c.loop.invariant (ready _ _ c.requires.empty c.requires.call_alone c.requires.stores_fit) (sym c.turn_at.ensures.turn ∙ c.in-Waits.is)).left.may_retire

pub returns-in-Waits-clause-few : goal.returns-in-Waits-clause-few
returns-in-Waits-clause-few g c =
    (over_waits _ _ _ _ _ c.loop.invariant (ready _ _ c.requires.empty c.requires.call_alone c.requires.stores_fit) (sym c.turn_at.ensures.turn ∙ c.in-Waits.is)).few

-- ---- the phase ends at a head that traps

pub returns-in-Traps-clause-state : goal.returns-in-Traps-clause-state
returns-in-Traps-clause-state g c =
    (over_traps _ _ _ _ _ _ _ c.loop.invariant (ready _ _ c.requires.empty c.requires.call_alone c.requires.stores_fit) c.loop-test.true (sym c.turn_at.ensures.turn ∙ c.in-Traps.is)).state

pub returns-in-Traps-clause-row : goal.returns-in-Traps-clause-row
returns-in-Traps-clause-row g c =
    (over_traps _ _ _ _ _ _ _ c.loop.invariant (ready _ _ c.requires.empty c.requires.call_alone c.requires.stores_fit) c.loop-test.true (sym c.turn_at.ensures.turn ∙ c.in-Traps.is)).row

pub returns-in-Traps-clause-piece : goal.returns-in-Traps-clause-piece
returns-in-Traps-clause-piece g c =
    (over_traps _ _ _ _ _ _ _ c.loop.invariant (ready _ _ c.requires.empty c.requires.call_alone c.requires.stores_fit) c.loop-test.true (sym c.turn_at.ensures.turn ∙ c.in-Traps.is)).piece

pub returns-in-Traps-clause-may_retire : goal.returns-in-Traps-clause-may_retire
returns-in-Traps-clause-may_retire g c =
    (over_traps _ _ _ _ _ _ _ c.loop.invariant (ready _ _ c.requires.empty c.requires.call_alone c.requires.stores_fit) c.loop-test.true (sym c.turn_at.ensures.turn ∙ c.in-Traps.is)).left.may_retire

pub returns-in-Traps-clause-few : goal.returns-in-Traps-clause-few
returns-in-Traps-clause-few g c =
    (over_traps _ _ _ _ _ _ _ c.loop.invariant (ready _ _ c.requires.empty c.requires.call_alone c.requires.stores_fit) c.loop-test.true (sym c.turn_at.ensures.turn ∙ c.in-Traps.is)).few

-- ---- a turn in which the head retires

pub tell-requires-clause-room : goal.tell-requires-clause-room
tell-requires-clause-room g c =
    tell_room _ _ _ _ _ c.lend-head.result.now _ c.loop.invariant (ready _ _ c.requires.empty c.requires.call_alone c.requires.stores_fit) c.loop-test.true
    (record { turn = sym c.turn_at.ensures.turn ∙ c.in-Leaves.is; head = c.lend-head.ensures }) (c.commit-ended.ensures.told c.args.desc.now c.loop.tags) c.requires.room

pub tell-requires-clause-sets : goal.tell-requires-clause-sets
tell-requires-clause-sets g c = ap (λ (d : Desc). d.cache_sets) c.loop.invariant.left.desc ∙ c.requires.sets

pub tell-requires-clause-line : goal.tell-requires-clause-line
tell-requires-clause-line g c = ap (λ (d : Desc). d.cache_line) c.loop.invariant.left.desc ∙ c.requires.line

pub commit-ended-requires-clause-inside : goal.commit-ended-requires-clause-inside
commit-ended-requires-clause-inside g c = head_inside _ _ _ _ c.loop.invariant.stores (record { turn = sym c.turn_at.ensures.turn ∙ c.in-Leaves.is; head = c.lend-head.ensures })

-- the phase is over where the head retires and ends the run
ends : (g : given.Over) (c : goal.In-Some g) → Over c.args.desc.now
    (record { rob = c.args.rob.now; writes = g.R.RenameTaint.writes c.args.table.now; table_room = g.R.RenameTaint.room c.args.table.now; queues = c.args.lsq.now; tags = c.args.tags.now; ram = c.args.ram.now; regs = c.args.regs.now; pc = c.args.pc.now; row = c.args.row.now; piece = c.args.piece.now })
    (Some c.in-Some.end)
    (record { rob = c.take_out.new.rob; writes = g.R.RenameTaint.writes c.take_out.new.table; table_room = g.R.RenameTaint.room c.take_out.new.table; queues = c.take_out.new.lsq; tags = c.tell.new.tags; ram = c.commit-ended.new.ram; regs = c.commit-ended.new.regs; pc = c.commit-ended.new.pc; row = c.tell.new.row; piece = c.commit-ended.new.piece })
ends g c =
    over_ends _ _ _ _ _ _ c.lend-head.result.now _ _ c.loop.invariant (ready _ _ c.requires.empty c.requires.call_alone c.requires.stores_fit) c.loop-test.true (record { turn = sym c.turn_at.ensures.turn ∙ c.in-Leaves.is; head = c.lend-head.ensures })
    (record {
      rob = c.take_out.ensures.rob;
      table = c.take_out.ensures.table;
      table_room = c.take_out.ensures.same_table_room;
      queues = c.take_out.ensures.lsq;
      state = c.commit-ended.ensures.state c.args.desc.now c.loop.tags;
      tags = c.tell.ensures.tags;
      told = c.commit-ended.ensures.told c.args.desc.now c.loop.tags;
      row = c.tell.ensures.row;
      piece = c.commit-ended.ensures.piece c.args.desc.now c.loop.tags;
      desc = c.tell.ensures.desc;
      shape = c.commit-ended.ensures.shape;
    })
    c.in-Some.is

pub returns-in-Some-clause-state : goal.returns-in-Some-clause-state
returns-in-Some-clause-state g c = (ends g c).state

pub returns-in-Some-clause-row : goal.returns-in-Some-clause-row
returns-in-Some-clause-row g c = (ends g c).row

pub returns-in-Some-clause-piece : goal.returns-in-Some-clause-piece
returns-in-Some-clause-piece g c = (ends g c).piece

pub returns-in-Some-clause-few : goal.returns-in-Some-clause-few
returns-in-Some-clause-few g c = (ends g c).few

pub returns-in-Some-clause-left : goal.returns-in-Some-clause-left
returns-in-Some-clause-left g c = (ends g c).left.window

pub returns-in-Some-clause-may_retire : goal.returns-in-Some-clause-may_retire
returns-in-Some-clause-may_retire g c = (ends g c).left.may_retire

pub returns-in-Some-clause-table : goal.returns-in-Some-clause-table
returns-in-Some-clause-table g c = (ends g c).left.table

pub returns-in-Some-clause-lsq : goal.returns-in-Some-clause-lsq
returns-in-Some-clause-lsq g c = (ends g c).left.queues

-- the loop goes on where the head retires and the run goes on
pub loop-preserved : goal.loop-preserved
loop-preserved g c =
    retires_more _ _ _ _ _ _ c.lend-head.result.now _ _ c.loop.invariant c.loop-test.true (record { turn = sym c.turn_at.ensures.turn ∙ c.in-Leaves.is; head = c.lend-head.ensures })
    (record {
      rob = c.take_out.ensures.rob;
      table = c.take_out.ensures.table;
      table_room = c.take_out.ensures.same_table_room;
      queues = c.take_out.ensures.lsq;
      state = c.commit-ended.ensures.state c.args.desc.now c.loop.tags;
      tags = c.tell.ensures.tags;
      told = c.commit-ended.ensures.told c.args.desc.now c.loop.tags;
      row = c.tell.ensures.row;
      piece = c.commit-ended.ensures.piece c.args.desc.now c.loop.tags;
      desc = c.tell.ensures.desc;
      shape = c.commit-ended.ensures.shape;
    })
    c.in_default.is
    c.has_stored-stored.ensures

-- ---- the width is reached

pub returns-clause-may_retire : goal.returns-clause-may_retire
returns-clause-may_retire g c = (over_last _ _ _ _ _ c.loop.invariant (ready _ _ c.requires.empty c.requires.call_alone c.requires.stores_fit) (omega arith)).left.may_retire

pub returns-clause-few : goal.returns-clause-few
returns-clause-few g c = (over_last _ _ _ _ _ c.loop.invariant (ready _ _ c.requires.empty c.requires.call_alone c.requires.stores_fit) (omega arith)).few
