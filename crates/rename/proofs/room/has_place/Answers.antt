use Rattle.std.proofs.Common.{ap, sym, ◌∙◌}
use Rattle.window_model.specs.Rename.{fits_as}
use Rattle.rename.proofs.Fitting.{load_fits, store_fits}
use Rattle.rename.proofs.room.has_place.Goals as goal

pub returns-in-Load : goal.returns-in-Load
returns-in-Load c = λ d loads stores. c.has_load_room.ensures ∙ load_fits d c.args.rob.now.entries c.args.lsq.now c.requires loads ∙ sym (ap (λ k. fits_as k d c.args.rob.now.entries) c.in-Load.is)

pub returns-in-Store : goal.returns-in-Store
returns-in-Store c = λ d loads stores. c.has_store_room.ensures ∙ store_fits d c.args.rob.now.entries c.args.lsq.now c.requires stores ∙ sym (ap (λ k. fits_as k d c.args.rob.now.entries) c.in-Store.is)
