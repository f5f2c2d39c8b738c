use Rattle.std.proofs.Common.{◌≡◌, ◌<◌, ◌+◌, ℕ, List, length, refl, ap, sym, subst, ◌∙◌, arith}
use Rattle.std.specs.Prelude.{Option, Some, slice_get}
use Rattle.std.proofs.lemmas.Option.{slice_get_read}
use Rattle.fixdec.specs.Decimal.{Decimal}
use Rattle.lensmodel.specs.Texts.Lens.{wave_line}
use Rattle.lensrun.specs.Numbered.{wave_lines}
use Rattle.lensrun.proofs.Lens.{length-numbered, numbered-get}
use Rattle.lensrun.proofs.lines.WavelengthsLines.print.Goals as goal

-- a number below the count of lines is below that of the wavelengths
within : (waves slice : List (Option Decimal)) (i : ℕ) → slice ≡ waves → i < length (wave_lines waves) → i < length slice
within waves slice i e h = subst (λ l. i < length l) (sym e) (subst (λ n. i < n) (length-numbered wave_line 1 waves) h)

pub offset_bounds-as_slice-i : goal.offset_bounds-as_slice-i
offset_bounds-as_slice-i c =
    omega (arith, within c.args.self.now.lens.now.waves.items c.as_slice.result.now c.args.i c.as_slice.ensures.value c.requires.within, c.as_slice.ensures.fits)

pub bounds-as_slice-i : goal.bounds-as_slice-i
bounds-as_slice-i c = within c.args.self.now.lens.now.waves.items c.as_slice.result.now c.args.i c.as_slice.ensures.value c.requires.within

pub overflow_cast-i : goal.overflow_cast-i
overflow_cast-i c =
    omega (arith, within c.args.self.now.lens.now.waves.items c.as_slice.result.now c.args.i c.as_slice.ensures.value c.requires.within, c.as_slice.ensures.fits)

pub overflow_add-i : goal.overflow_add-i
overflow_add-i c =
    omega (arith, within c.args.self.now.lens.now.waves.items c.as_slice.result.now c.args.i c.as_slice.ensures.value c.requires.within, c.as_slice.ensures.fits)

pub returns : goal.returns
returns c =
    numbered-get wave_line 1 c.args.i (c.args.i + 1) c.args.self.now.lens.now.waves.items c.index-as_slice-i.result
    (subst (λ l. slice_get l c.args.i ≡ Some c.index-as_slice-i.result) c.as_slice.ensures.value
    (slice_get_read c.as_slice.result.now (length c.as_slice.result.now) c.args.i c.index-as_slice-i.result refl
    (within c.args.self.now.lens.now.waves.items c.as_slice.result.now c.args.i c.as_slice.ensures.value c.requires.within) c.index-as_slice-i.is))
    (omega arith)
    ∙ ap Some (sym c.print_wave.ensures)
