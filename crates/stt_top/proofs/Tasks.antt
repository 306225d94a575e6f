-- What tasks come to: one work each.
use Rattle.std.proofs.Common.{◌≡◌, ℕ, List, [], ◌∷◌, Option, Some, None, Ok, sym, ◌∙◌, ap, subst}
use Rattle.std.specs.Prelude.{◌==◌, All}
use Rattle.std.proofs.lemmas.Bool.{eqb-true}
use Rattle.std.proofs.lemmas.List.Elements.{All-head, All-tail}
use Rattle.elf_loader.specs.Image.{ImageText, image_of}
use Rattle.elf_loader.proofs.Images.{at_words}
use Rattle.machine_desc.specs.declared.Desc.{Desc}
use Rattle.pair_run.proofs.Unique.{one_answer}
use Rattle.progress.specs.Laws.{Allows}
use Rattle.tool_words.specs.Words.{CommandText, isa_text, run_text, trace_text, bench_text, pair_text}
use Rattle.window_model.specs.Committed.{Aligned}
use Rattle.run_inputs.specs.Input.{MayGive, ImageFrom, HoldsBytes, AreImages, base_of, size_of, misaligned_of}
use Rattle.stt_top.specs.Top.{sources, Runs}
use Rattle.stt_top.specs.Work.{TaskText, isa_task, report_task, trace_task, pair_task, task_of, OneWork, pair_work}
use Rattle.run_inputs.proofs.Images.{image_stays}
use Rattle.tool_io.specs.Outside.{Shelf}

pub one_work : OneWork
one_work (isa_task image steps) a b f g = f ∙ sym g
one_work (report_task d image cycles) a b f g = f ∙ sym g
one_work (trace_task d image cycles) a b f g = f ∙ sym g
one_work (pair_task d one two cycles) a b f g = f.2 ∙ (ap pair_work (one_answer d one two cycles f.0 g.0 f.1 g.1) ∙ sym g.2)

-- ---- Images under their description

-- instructions stand at multiples of 4, memory holds bytes, and it takes an access at any address only where the
-- description says so
pub record Suits (d : Desc) (image : ImageText) : Type 0 where
  pub aligned : Aligned image.code
  pub bytes : HoldsBytes image
  pub allows : Allows d image.ram

abbrev SuitsBy : Option Desc → ImageText → Type 0
SuitsBy None image = Unit {0}
SuitsBy (Some d) image = Suits d image

-- every one of the images suits the description, if there is one
abbrev AllSuit : Option Desc → List ImageText → Type 0
AllSuit desc [] = Unit {0}
AllSuit desc (image ∷ images) = SuitsBy desc image × AllSuit desc images

suits : (desc : Option Desc) (file : List ℕ) (image : ImageText) → image_of file (base_of desc) (size_of desc) (misaligned_of desc) ≡ Ok image → HoldsBytes image
    → SuitsBy desc image
suits None file image e b = tt
suits (Some d) file image e b = record {
  aligned = at_words file d.ram_base d.ram_size (d.ram_misaligned == 1) image e;
  bytes = b;
  allows = λ any. eqb-true d.ram_misaligned 1 (sym (image_stays file d.ram_base d.ram_size (d.ram_misaligned == 1) image e).misaligned_is ∙ any);
}

all_suit : (shelf : Shelf) (desc : Option Desc) (sources : List ImageFrom) (images : List ImageText) → AreImages (MayGive shelf) desc sources images → All HoldsBytes images → AllSuit desc images
all_suit shelf desc [] [] a b = tt
all_suit shelf desc [] (x ∷ xs) a b = absurd a
all_suit shelf desc (from ∷ rest) [] a b = absurd a
all_suit shelf desc (from ∷ rest) (image ∷ images) a b =
    (suits desc a.0.file image a.0.loads (All-head HoldsBytes image images b), all_suit shelf desc rest images a.1 (All-tail HoldsBytes image images b))

-- the image that the machine runs for a task suits its description; of two images the first does
abbrev pub SuitedTask : TaskText → Type 0
SuitedTask (isa_task image steps) = Unit {0}
SuitedTask (report_task d image cycles) = Suits d image
SuitedTask (trace_task d image cycles) = Suits d image
SuitedTask (pair_task d one two cycles) = Suits d one

by_task : (asked task : TaskText) → Some asked ≡ Some task → SuitedTask asked → SuitedTask task
by_task asked task e a = let same : asked ≡ task = cc in subst SuitedTask same a

no_task : (task : TaskText) → None ≡ Some task → ⊥
no_task task e = absurd (cc)

asked_suited : (command : CommandText) (desc : Option Desc) (images : List ImageText) (task : TaskText) → task_of command desc images ≡ Some task → AllSuit desc images → SuitedTask task
asked_suited (isa_text name steps description) desc (image ∷ []) task e a = by_task (isa_task image steps) task e tt
asked_suited (run_text description name cycles) (Some d) (image ∷ []) task e a = by_task (report_task d image cycles) task e a.0
asked_suited (trace_text description name cycles) (Some d) (image ∷ []) task e a = by_task (trace_task d image cycles) task e a.0
asked_suited (bench_text description seed blocks cycles) (Some d) (image ∷ []) task e a = by_task (report_task d image cycles) task e a.0
asked_suited (pair_text description name name2 cycles) (Some d) (one ∷ two ∷ []) task e a = by_task (pair_task d one two cycles) task e a.0
asked_suited _ _ _ task e a = absurd (no_task task e)

pub task_suited : (command : CommandText) (old new : Shelf) (task : TaskText) → Runs command old new task → SuitedTask task
task_suited command old new task r = asked_suited command r.desc r.images task r.asks (all_suit old r.desc (sources command) r.images r.read.are_images r.read.hold_bytes)
