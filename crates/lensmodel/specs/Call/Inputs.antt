-- The files that commands name, each read and accepted or answered by its fault; and the setup that they make. Cited by the
-- commands.
use Rattle.std.specs.Prelude.{ℕ, ◌≡◌, ◌-◌, List, [], ◌∷◌, length, Option, Some, None, Ok}
use Rattle.lensmodel.specs.Call.Answer.{Contents, Named, Answer, on_file, on_read, on_checked}
use Rattle.lensmodel.specs.Files.Catalogue.{catalogue}
use Rattle.lensmodel.specs.Files.Job.{job as job_of}
use Rattle.lensmodel.specs.Files.Joining.{joined}
use Rattle.lensmodel.specs.Files.Lens.{prescription}
use Rattle.lensmodel.specs.Files.LensFile.{LensFile}
use Rattle.lensmodel.specs.Files.Tolerances.{tolerance_box}
use Rattle.lensmodel.specs.Texts.FaultText.{zmx_cause, agf_cause, job_cause, tol_cause}
use Rattle.lensmodel.specs.declared.glass.Glass.{Glass}
use Rattle.lensmodel.specs.declared.job.Job.{Job}
use Rattle.lensmodel.specs.declared.prescription.Prescription.{Prescription}
use Rattle.lensmodel.specs.declared.setup.Setup.{Setup}
use Rattle.lensmodel.specs.declared.status.FileKind.TheVariants.{Zmx, Agf, Job as JobFile, Tol}
use Rattle.lensmodel.specs.declared.tolerance.TolBox.{TolBox}

-- the names of a lens, a catalogue and a job, and of a box where one is named
pub record Inputs : Type 0 where
  pub zmx : List ℕ
  pub agf : List ℕ
  pub job : List ℕ
  pub tol : Option (List ℕ)

-- ZMX AGF JOB; and with TOL
abbrev pub three_inputs : List (List ℕ) → Option Inputs
three_inputs (zmx ∷ agf ∷ job ∷ []) = Some (record { zmx = zmx; agf = agf; job = job; tol = None })
three_inputs words = None

abbrev pub boxed_inputs : List (List ℕ) → Option Inputs
boxed_inputs (zmx ∷ agf ∷ job ∷ tol ∷ []) = Some (record { zmx = zmx; agf = agf; job = job; tol = Some tol })
boxed_inputs words = three_inputs words

abbrev pub box_named : Option (List ℕ) → Named
box_named None = []
box_named (Some tol) = (Tol, tol) ∷ []

abbrev pub inputs_named : Inputs → Named
inputs_named i = (Zmx, i.zmx) ∷ (Agf, i.agf) ∷ (JobFile, i.job) ∷ box_named i.tol

-- ---- each file
abbrev pub on_lens : Contents → List ℕ → (LensFile → Answer) → Answer
on_lens files name go_on = on_file Zmx (files Zmx name) (λ bytes. on_read Zmx zmx_cause (prescription bytes) go_on)

abbrev pub on_catalogue : Contents → List ℕ → (List Glass → Answer) → Answer
on_catalogue files name go_on = on_file Agf (files Agf name) (λ bytes. on_read Agf agf_cause (catalogue bytes) go_on)

abbrev pub on_job : Contents → List ℕ → (Job → Answer) → Answer
on_job files name go_on = on_file JobFile (files JobFile name) (λ bytes. on_read JobFile job_cause (job_of bytes) go_on)

-- the box of a lens whose last surface has the number image, where one is named
abbrev pub on_box : Contents → ℕ → Option (List ℕ) → (Option TolBox → Answer) → Answer
on_box files image None go_on = go_on None
on_box files image (Some name) go_on = on_file Tol (files Tol name) (λ bytes. on_read Tol tol_cause (tolerance_box bytes image) (λ box. go_on (Some box)))

-- the number of the last surface
abbrev pub image_of : Prescription → ℕ
image_of lens = length lens.surfaces.items - 1

-- the setup and the job of all of them, in the order in which they are read
abbrev pub on_inputs : Contents → Inputs → (Setup → Job → Answer) → Answer
on_inputs files i go_on =
    on_lens files i.zmx (λ read. on_catalogue files i.agf (λ book. on_job files i.job (λ job.
    on_box files (image_of read.lens) i.tol (λ box. on_checked (joined read.lens book job box) (λ s. go_on s job)))))

-- ---- what they give, as a fact
-- the box that the file of a name holds
abbrev pub HasBoxFile : Contents → ℕ → Option (List ℕ) → Option TolBox → Type 0
HasBoxFile files image None box = box ≡ None
HasBoxFile files image (Some name) None = ⊥
HasBoxFile files image (Some name) (Some box) = (bytes : List ℕ) × (files Tol name ≡ Some bytes) × (tolerance_box bytes image ≡ Ok box)

-- the files held by the names are accepted, and make this setup and this job
pub record AreInputs (files : Contents) (i : Inputs) (s : Setup) (job : Job) : Type 0 where
  pub zmx_bytes : List ℕ
  pub agf_bytes : List ℕ
  pub job_bytes : List ℕ
  pub file : LensFile
  pub book : List Glass
  pub box : Option TolBox
  pub zmx : files Zmx i.zmx ≡ Some zmx_bytes
  pub agf : files Agf i.agf ≡ Some agf_bytes
  pub job_held : files JobFile i.job ≡ Some job_bytes
  pub lens_read : prescription zmx_bytes ≡ Ok file
  pub book_read : catalogue agf_bytes ≡ Ok book
  pub job_read : job_of job_bytes ≡ Ok job
  pub box_read : HasBoxFile files (image_of file.lens) i.tol box
  pub setup : joined file.lens book job box ≡ Ok s
