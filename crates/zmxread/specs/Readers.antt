-- Where a reader stands.
use Rattle.std.specs.Prelude.{◌≡◌, ℕ, List, [], ◌∷◌, length, codes}
use Rattle.lensmodel.specs.Files.Lens.{last_of, is_marked, marked_from, primary_in, all_surfaces, wavelengths, unused_names, counted}
use Rattle.lensmodel.specs.Files.LensFaults.{is_SURF}
use Rattle.lensmodel.specs.Files.Records.{Words, each_block}
use Rattle.lensmodel.specs.declared.prescription.Prescription.{Prescription}
use Rattle.zmxread.specs.Stops.{stop_or}
use Rattle.zmxread.specs.declared.walk.Reader.{Reader}
use Rattle.zmxread.specs.declared.walk.Stop.{Stop}
use Rattle.zmxread.specs.declared.walk.Stop.TheVariants.{Missing, At, Several}

-- the stop, by the numbers of the surfaces that are marked
abbrev pub stop_among : List ℕ → Stop
stop_among [] = Missing
stop_among (j ∷ []) = At j
stop_among (j ∷ k ∷ more) = Several

-- the numbers of the surfaces that some lines mark
abbrev pub marks_of : List Words → List ℕ
marks_of lines = marked_from 0 (each_block is_SURF is_marked lines)

-- a reader that took the lines before
pub record IsAt (before : List Words) (r : Reader) : Type 0 where
  pub surfaces : r.lens.surfaces.items ≡ all_surfaces before
  pub waves : r.lens.waves.items ≡ wavelengths before
  pub primary : r.lens.primary ≡ primary_in (last_of (codes "PWAV") before)
  pub stop : r.stop ≡ stop_among (marks_of before)
  pub unused : r.unused ≡ counted (unused_names [] before)

-- the lens of a reader that took all lines
abbrev pub closed_lens : Reader → Prescription
closed_lens r = record r.lens { stop = stop_or (length r.lens.surfaces.items) r.stop }
