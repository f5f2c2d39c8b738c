-- The lines of a lens file, and what it says.
use Rattle.std.specs.Prelude.{◌≡◌, ℕ, List, [], length, Some, None, Result, Ok, Err, IfOk, OnOk}
use Rattle.std.specs.List.{All}
use Rattle.std.proofs.Common.{ap, sym, subst, ◌∙◌}
use Rattle.lensmodel.specs.Files.Causes.{ok_unless, or_first}
use Rattle.lensmodel.specs.Files.Lens.{is_marked, marked_from, one_or, lens_of, file_of, of_lines, prescription}
use Rattle.lensmodel.specs.Files.LensFaults.{is_SURF, offence}
use Rattle.lensmodel.specs.Files.Records.{Words, each_words, each_block, first_offence, said_by}
use Rattle.lensmodel.specs.Files.TextLines.{text}
use Rattle.lensmodel.specs.Setup.WellFormed.{IsWrittenSurface, IsWrittenLens, IsSound}
use Rattle.lensmodel.specs.Setup.WholeFaults.{whole_fault}
use Rattle.lensmodel.specs.declared.fault.TextFault.{TextFault}
use Rattle.lensmodel.specs.declared.fault.ZmxFault.{ZmxFault}
use Rattle.lensmodel.specs.declared.fault.ZmxFault.TheVariants.{Text}
use Rattle.zmxread.specs.File.{lens_file}
use Rattle.zmxread.specs.declared.file.ZmxFile.{ZmxFile}
use Rattle.zmxread.specs.Readers.{IsAt, closed_lens}
use Rattle.zmxread.specs.Stops.{stop_or}
use Rattle.zmxread.specs.declared.walk.Reader.{Reader}
use Rattle.zmxread.proofs.Marks.{stop_of-among}
use Rattle.zmxread.proofs.Steps.{each_block-count, count-so-far}
use Rattle.zmxread.proofs.WrittenNumbers.{surfaces-written, lens-written}

pub all-written : (ls : List Words) (r : Reader) → IsAt ls r → All IsWrittenSurface r.lens.surfaces.items
all-written ls r at = subst (λ (fs : List _). All IsWrittenSurface fs) (sym at.surfaces) (surfaces-written ls)

-- the lens of all lines
pub closed-is : (ls : List Words) (r : Reader) → IsAt ls r → closed_lens r ≡ lens_of ls
closed-is ls r at =
    let marks = each_block is_SURF is_marked ls in
    let count : length r.lens.surfaces.items ≡ length marks = count-so-far ls r at ∙ sym (each_block-count is_SURF is_marked ls) in
    let stop : stop_or (length r.lens.surfaces.items) r.stop ≡ one_or (length marks) (marked_from 0 marks) =
    (λ i. stop_or (count i) (at.stop i)) ∙ sym (stop_of-among (length marks) (marked_from 0 marks)) in
    (λ i. record {
      surfaces = record { items = at.surfaces i };
      stop = stop i;
      waves = record { items = at.waves i };
      primary = at.primary i;
    })

of_lines-sound : (ls : List Words) (r : Reader) → first_offence offence 1 [] ls ≡ None → IsAt ls r → whole_fault (closed_lens r) ≡ None
    → of_lines ls ≡ Ok (record { lens = closed_lens r; unused = r.unused })
of_lines-sound ls r e at w =
    let c = closed-is ls r at in
    ap (λ o. ok_unless (or_first o (whole_fault (lens_of ls))) (file_of ls)) e
    ∙ ap (λ l. ok_unless (whole_fault l) (file_of ls)) (sym c)
    ∙ ap (λ o. ok_unless o (file_of ls)) w
    ∙ sym (λ i. Ok (record { lens = c i; unused = at.unused i }))

pub finished-file : (ls : List Words) (r : Reader) (made : Result ZmxFile ZmxFault) → first_offence offence 1 [] ls ≡ None → IsAt ls r
    → IfOk made (λ f. f.lens ≡ closed_lens r) → IfOk made (λ f. f.unused ≡ r.unused) → OnOk made (whole_fault (closed_lens r) ≡ None)
    → IfOk made (λ f. of_lines ls ≡ Ok (lens_file f))
finished-file ls r (Ok f) e at l u w = of_lines-sound ls r e at w ∙ sym (λ i. Ok (record { lens = l i; unused = u i }))
finished-file ls r (Err f) e at l u w = tt

pub finished-lens : (ls : List Words) (r : Reader) (made : Result ZmxFile ZmxFault) → IsAt ls r
    → IfOk made (λ f. f.lens ≡ closed_lens r) → OnOk made (whole_fault (closed_lens r) ≡ None) → IfOk made (λ f. IsSound f.lens)
finished-lens ls r (Ok f) at l w = record {
  whole = ap whole_fault l ∙ w;
  written = subst IsWrittenLens (sym (closed-is ls r at) ∙ sym l) (lens-written ls);
}
finished-lens ls r (Err f) at l w = tt

pub of_lines-fault : (ls : List Words) (f : ZmxFault) → first_offence offence 1 [] ls ≡ Some f → of_lines ls ≡ Err f
of_lines-fault ls f e = ap (λ o. ok_unless (or_first o (whole_fault (lens_of ls))) (file_of ls)) e

pub of_lines-whole : (ls : List Words) (r : Reader) (f : ZmxFault) → first_offence offence 1 [] ls ≡ None → IsAt ls r → whole_fault (closed_lens r) ≡ Some f
    → of_lines ls ≡ Err f
of_lines-whole ls r f e at w =
    ap (λ o. ok_unless (or_first o (whole_fault (lens_of ls))) (file_of ls)) e
    ∙ ap (λ l. ok_unless (whole_fault l) (file_of ls)) (sym (closed-is ls r at))
    ∙ ap (λ o. ok_unless o (file_of ls)) w

pub prescription-lines : (bytes : List ℕ) (ls : List (List ℕ)) → text bytes ≡ Ok ls → prescription bytes ≡ of_lines (each_words ls)
unfolding prescription
prescription-lines bytes ls e = ap (said_by Text (λ lines. of_lines (each_words lines))) e

pub prescription-fault : (bytes : List ℕ) (f : TextFault) → text bytes ≡ Err f → prescription bytes ≡ Err (Text f)
unfolding prescription
prescription-fault bytes f e = ap (said_by Text (λ lines. of_lines (each_words lines))) e
