-- What has to be computed so that the machine agrees with a run.
use Rattle.std.proofs.Common.{◌≡◌, ℕ, IsTrue, List, Ok, None}
use Rattle.std.specs.Prelude.{◌==◌, flat_map}
use Rattle.rv_types.specs.Memory.{Ram, zeros}
use Rattle.rv_types.specs.Word.{to_le}
use Rattle.machine_desc.specs.Description.{description_of, contents}
use Rattle.elf_loader.specs.Faults.{header_fault}
use Rattle.elf_loader.specs.Image.{ram_fault, image_in}
use Rattle.elf_loader.proofs.Images.{image_without}
use Rattle.window_model.specs.Cycle.{trace}
use Rattle.trace_text.specs.TraceText.{trace_text}
use Rattle.generated_runs.specs.Agreement.{Run, Agrees}
use Rattle.generated_runs.proofs.Described.{Numbers, may_be_described, number_at, described}

-- the bytes of a run's image
abbrev pub file_of : Run → List ℕ
file_of run = flat_map (to_le 4) run.image

-- the memory of a description before the image is loaded
abbrev pub memory_of : Numbers → Ram
memory_of c = record { base = number_at c 17; bytes = zeros (number_at c 18); misaligned = number_at c 19 == 1 }

module _ (run : Run) (c : Numbers) (fits : IsTrue (may_be_described c)) where
  pub agrees : description_of run.description ≡ Ok (contents (described c fits)) → header_fault (file_of run) ≡ None → ram_fault (file_of run) (memory_of c) ≡ None →
      (let image = image_in (file_of run) (memory_of c) in
      trace_text (trace (described c fits) image.code image.entry image.ram run.cycles) ≡ run.trace) → Agrees run
  agrees read headers segments same = record {
    desc = described c fits;
    described = read;
    image = image_in (file_of run) (memory_of c);
    loaded = image_without (file_of run) (number_at c 17) (number_at c 18) (number_at c 19 == 1) headers segments;
    traced = same;
  }
