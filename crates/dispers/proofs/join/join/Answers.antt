use Rattle.std.proofs.Common.{◌≡◌, refl, sym, ap, ◌∙◌, ◌-◌, arith}
use Rattle.std.proofs.lemmas.Result.{err_from_is_err_and}
use Rattle.std.specs.Prelude.{None, Some}
use Rattle.lensmodel.specs.Files.Causes.{each_from, first_fault}
use Rattle.lensmodel.specs.Files.Joining.{before_image, index_faults, joined, joined_at, media_of, setup_of, wave_of}
use Rattle.arrayvec.specs.ArrayVec.{ArrayVec}
use Rattle.lensmodel.specs.declared.glass.Medium.{Medium}
use Rattle.dispers.specs.Checks.{glass_fault, formula_fault}
use Rattle.dispers.proofs.Faults.{fault-of, none-of, value-of, same_fault}
use Rattle.dispers.proofs.Joined.{without_glass, without_formula, without_wave, with_wave, media-length, media-known, setup-well_formed}
use Rattle.dispers.proofs.Lenses.{surfaces-length}
use Rattle.dispers.proofs.join.join.Goals as goal

pub before_image-requires : goal.before_image-requires
before_image-requires c = let h = surfaces-length c.args.lens c.requires.lens in omega arith

pub returns-in_err-media-clause-exact : goal.returns-in_err-media-clause-exact
unfolding joined
returns-in_err-media-clause-exact c =
    let p = err_from_is_err_and c.from_residual.result c.from_residual.ensures.1 in
    let glasses = each_from (glass_fault c.args.book.now) 0 (before_image c.args.lens) in
    let h = fault-of (first_fault glasses) _ _ (rw c.before_image.ensures at c.in_err-media.ensures) in
    rw (p.1, p.2) (sym (without_glass c.args.lens c.args.book.now c.args.job.now c.args.toler (wave_of c.args.job.now.wave c.args.lens) _ h))

pub returns-in_err-check_formulas-clause-exact : goal.returns-in_err-check_formulas-clause-exact
unfolding joined
returns-in_err-check_formulas-clause-exact c =
    let p = err_from_is_err_and c.from_residual-in_err-check_formulas.result c.from_residual-in_err-check_formulas.ensures.1 in
    let lens = c.args.lens in
    let book = c.args.book.now in
    let glasses = first_fault (each_from (glass_fault book) 0 (before_image lens)) in
    let found = rw c.before_image.ensures at c.in_ok-media.ensures in
    let g = none-of glasses _ _ found in
    let same : c.in_ok-media.media.items ≡ media_of book lens = ap (λ (m : ArrayVec Medium). m.items) (value-of glasses _ _ found) in
    let h = fault-of (first_fault (each_from formula_fault 0 (media_of book lens))) tt _ (rw (c.as_slice.ensures.value, same) at c.in_err-check_formulas.ensures) in
    rw (p.1, p.2) (sym (without_formula lens book c.args.job.now c.args.toler (wave_of c.args.job.now.wave lens) _ g h))

pub returns-in_err-wave-clause-exact : goal.returns-in_err-wave-clause-exact
unfolding joined
returns-in_err-wave-clause-exact c =
    let p = err_from_is_err_and c.from_residual-in_err-wave.result c.from_residual-in_err-wave.ensures.1 in
    let lens = c.args.lens in
    let book = c.args.book.now in
    let job = c.args.job.now in
    let toler = c.args.toler in
    let glasses = first_fault (each_from (glass_fault book) 0 (before_image lens)) in
    let found = rw c.before_image.ensures at c.in_ok-media.ensures in
    let g = none-of glasses _ _ found in
    let same : c.in_ok-media.media.items ≡ media_of book lens = ap (λ (m : ArrayVec Medium). m.items) (value-of glasses _ _ found) in
    let h = none-of (first_fault (each_from formula_fault 0 (media_of book lens))) tt _ (rw (c.as_slice.ensures.value, same) at c.in_ok-check_formulas.ensures) in
    let none : c.wave_of.result ≡ None = c.in_err-wave.ensures.ok_part in
    let missing = rw none at c.in_err-wave.ensures.value in
    let given : wave_of job.wave lens ≡ None = sym c.wave_of.ensures ∙ none in
    rw (p.1, p.2, same_fault _ _ missing) (sym (ap (joined_at lens book job toler) given ∙ without_wave lens book job toler g h))

pub check_setup-requires-clause-media : goal.check_setup-requires-clause-media
check_setup-requires-clause-media c =
    let lens = c.args.lens in
    let book = c.args.book.now in
    let glasses = first_fault (each_from (glass_fault book) 0 (before_image lens)) in
    let found = rw c.before_image.ensures at c.in_ok-media.ensures in
    let same : c.in_ok-media.media.items ≡ media_of book lens = ap (λ (m : ArrayVec Medium). m.items) (value-of glasses _ _ found) in
    let count = media-length lens book c.args.job.now c.args.toler in
    let some = surfaces-length lens c.requires.lens in
    rw same (omega arith)

pub check_setup-requires-clause-known : goal.check_setup-requires-clause-known
check_setup-requires-clause-known c =
    let lens = c.args.lens in
    let book = c.args.book.now in
    let job = c.args.job.now in
    let toler = c.args.toler in
    let glasses = first_fault (each_from (glass_fault book) 0 (before_image lens)) in
    let found = rw c.before_image.ensures at c.in_ok-media.ensures in
    let g = none-of glasses _ _ found in
    let same : c.in_ok-media.media.items ≡ media_of book lens = ap (λ (m : ArrayVec Medium). m.items) (value-of glasses _ _ found) in
    let h = none-of (first_fault (each_from formula_fault 0 (media_of book lens))) tt _ (rw (c.as_slice.ensures.value, same) at c.in_ok-check_formulas.ensures) in
    rw same (media-known lens book job toler h)

pub returns-in_err-check_setup-clause-exact : goal.returns-in_err-check_setup-clause-exact
unfolding joined
returns-in_err-check_setup-clause-exact c =
    let p = err_from_is_err_and c.from_residual-in_err-check_setup.result c.from_residual-in_err-check_setup.ensures.1 in
    let lens = c.args.lens in
    let book = c.args.book.now in
    let job = c.args.job.now in
    let toler = c.args.toler in
    let glasses = first_fault (each_from (glass_fault book) 0 (before_image lens)) in
    let found = rw c.before_image.ensures at c.in_ok-media.ensures in
    let g = none-of glasses _ _ found in
    let same : c.in_ok-media.media.items ≡ media_of book lens = ap (λ (m : ArrayVec Medium). m.items) (value-of glasses _ _ found) in
    let h = none-of (first_fault (each_from formula_fault 0 (media_of book lens))) tt _ (rw (c.as_slice.ensures.value, same) at c.in_ok-check_formulas.ensures) in
    let wave = c.in_ok-wave.wave in
    let given : wave_of job.wave lens ≡ Some wave = sym c.wave_of.ensures ∙ c.in_ok-wave.ensures.ok_part in
    let s = setup_of lens book job toler wave in
    let f = fault-of (first_fault (index_faults s)) tt _ (rw same at c.in_err-check_setup.ensures) in
    rw (p.1, p.2) (sym (ap (joined_at lens book job toler) given ∙ with_wave lens book job toler wave g h ∙ rw f refl))

pub returns-clause-exact : goal.returns-clause-exact
unfolding joined
returns-clause-exact c =
    let lens = c.args.lens in
    let book = c.args.book.now in
    let job = c.args.job.now in
    let toler = c.args.toler in
    let glasses = first_fault (each_from (glass_fault book) 0 (before_image lens)) in
    let found = rw c.before_image.ensures at c.in_ok-media.ensures in
    let g = none-of glasses _ _ found in
    let same : c.in_ok-media.media.items ≡ media_of book lens = ap (λ (m : ArrayVec Medium). m.items) (value-of glasses _ _ found) in
    let h = none-of (first_fault (each_from formula_fault 0 (media_of book lens))) tt _ (rw (c.as_slice.ensures.value, same) at c.in_ok-check_formulas.ensures) in
    let wave = c.in_ok-wave.wave in
    let given : wave_of job.wave lens ≡ Some wave = sym c.wave_of.ensures ∙ c.in_ok-wave.ensures.ok_part in
    let s = setup_of lens book job toler wave in
    let f = none-of (first_fault (index_faults s)) tt _ (rw same at c.in_ok-check_setup.ensures) in
    sym (ap (joined_at lens book job toler) given ∙ with_wave lens book job toler wave g h ∙ rw (f, same) refl)

pub returns-clause-well : goal.returns-clause-well
returns-clause-well c =
    let lens = c.args.lens in
    let book = c.args.book.now in
    let job = c.args.job.now in
    let toler = c.args.toler in
    let glasses = first_fault (each_from (glass_fault book) 0 (before_image lens)) in
    let found = rw c.before_image.ensures at c.in_ok-media.ensures in
    let g = none-of glasses _ _ found in
    let same : c.in_ok-media.media.items ≡ media_of book lens = ap (λ (m : ArrayVec Medium). m.items) (value-of glasses _ _ found) in
    let h = none-of (first_fault (each_from formula_fault 0 (media_of book lens))) tt _ (rw (c.as_slice.ensures.value, same) at c.in_ok-check_formulas.ensures) in
    let wave = c.in_ok-wave.wave in
    let given : wave_of job.wave lens ≡ Some wave = sym c.wave_of.ensures ∙ c.in_ok-wave.ensures.ok_part in
    let s = setup_of lens book job toler wave in
    let f = none-of (first_fault (index_faults s)) tt _ (rw same at c.in_ok-check_setup.ensures) in
    rw same (setup-well_formed lens book job toler wave c.requires.lens c.requires.job c.requires.toler given h f)
