-- The outcome of a call means what its command asks for.
use Rattle.std.proofs.Common.{◌≡◌, ℕ, Bool, true, false, List, length, Option, Some, None, Result, Ok, Err, refl, sym, ap, subst, ◌∙◌, if◌then◌else◌}
use Rattle.std.specs.Prelude.{nat_lt}
use Rattle.dispers.specs.IndexAt12.{index_at_12-holds}
use Rattle.dispers.specs.Picked.{IsPicked, known_if_used, picked-is}
use Rattle.lensmodel.specs.Call.Answer.{Contents, Answer, answer, on_file, on_read, on_checked}
use Rattle.lensmodel.specs.Call.First.{PrintsFirst}
use Rattle.lensmodel.specs.Call.Index.{Index, PrintsIndex, index_answer}
use Rattle.lensmodel.specs.Call.Inputs.{Inputs}
use Rattle.lensmodel.specs.Call.Seidel.{PrintsSums}
use Rattle.lensmodel.specs.Call.TopCall as top
use Rattle.lensmodel.specs.Call.TopCall.{Command, Means, command_answer, command_by, if_built, index, glass, read, trace, trace_json, first, seidel}
use Rattle.lensmodel.specs.Call.Trace.{PrintsRows}
use Rattle.lensmodel.specs.Call.TraceJson.{PrintsJson}
use Rattle.lensmodel.specs.Files.Catalogue.{catalogue}
use Rattle.lensmodel.specs.Files.Picking.{Picked, picked}
use Rattle.lensmodel.specs.Texts.FaultText.{agf_cause, too_long_line}
use Rattle.lensmodel.specs.Texts.Index.{index_line}
use Rattle.lensmodel.specs.declared.fault.AgfFault.{AgfFault}
use Rattle.lensmodel.specs.declared.fault.CrossFault.{CrossFault}
use Rattle.lensmodel.specs.declared.glass.Glass.{Glass}
use Rattle.lensmodel.specs.declared.status.FileKind.TheVariants.{Agf}
use Rattle.lensmodel.specs.declared.status.Status.TheVariants.{Done, TooLong}
use Rattle.lensrun.specs.Built.{command_of, outcome}
use Rattle.lensrun.specs.Due.{due_answer, DueHolds, TracingHolds, ValuesHold}
use Rattle.lensrun.specs.Promise.{IsAnswered}
use Rattle.lensrun.specs.declared.due.Due.{Due}

module _ (files : Contents) (c : Index) where
  -- an answer that is done prints the index
  PrintsWhenDone : Answer → Type 0
  PrintsWhenDone a = a.status ≡ Done → PrintsIndex files c a.text

  -- the line of a glass with its index
  line : Picked → Answer
  line p = answer Done (index_line p.glass.name.items c.wave p.index)

  line-means : (bytes : List ℕ) (book : List Glass) (p : Picked) → files Agf c.agf ≡ Some bytes → catalogue bytes ≡ Ok book → IsPicked book c.name c.wave p
      → PrintsWhenDone (line p)
  unfolding PrintsWhenDone line
  line-means bytes book p held is h =
      let u = h.usable in
      λ done. record {
        bytes = bytes;
        book = book;
        found = p.glass;
        ends = p.index;
        held = held;
        read = is;
        first = h.found;
        printed = refl;
        holds = index_at_12-holds p.glass c.wave p.index (known_if_used p.glass.formula u.used) u.index;
      }

  book-means : (bytes : List ℕ) (book : List Glass) → files Agf c.agf ≡ Some bytes → catalogue bytes ≡ Ok book → PrintsWhenDone (on_checked (picked book c.name c.wave) line)
  unfolding PrintsWhenDone
  book-means bytes book held is = by (picked book c.name c.wave) refl
    where
      by : (r : Result Picked CrossFault) → picked book c.name c.wave ≡ r → PrintsWhenDone (on_checked r line)
      by (Err fault) e = λ done. cc
      by (Ok p) e = line-means bytes book p held is (picked-is book c.name c.wave p e)

  bytes-mean : (bytes : List ℕ) → files Agf c.agf ≡ Some bytes → PrintsWhenDone (on_read Agf agf_cause (catalogue bytes) (λ book. on_checked (picked book c.name c.wave) line))
  unfolding PrintsWhenDone
  bytes-mean bytes held = by (catalogue bytes) refl
    where
      by : (r : Result (List Glass) AgfFault) → catalogue bytes ≡ r → PrintsWhenDone (on_read Agf agf_cause r (λ book. on_checked (picked book c.name c.wave) line))
      by (Err fault) e = λ done. cc
      by (Ok book) e = book-means bytes book held e

  index-means : PrintsWhenDone (index_answer files c)
  unfolding PrintsWhenDone line
  index-means = by (files Agf c.agf) refl
    where
      in_time : (long : Bool) (a : Answer) → PrintsWhenDone a → PrintsWhenDone (if long then answer TooLong (too_long_line Agf) else a)
      in_time true a h = λ done. cc
      in_time false a h = h

      by : (o : Option (List ℕ)) → files Agf c.agf ≡ o
          → PrintsWhenDone (on_file Agf o (λ bytes. on_read Agf agf_cause (catalogue bytes) (λ book. on_checked (picked book c.name c.wave) line)))
      by None e = λ done. cc
      by (Some bytes) e = in_time (nat_lt 16_777_216 (length bytes)) _ (bytes-mean bytes e)

-- the rows of a trace that is done
module _ (files : Contents) (i : Inputs) (due : Due) where
  rows-mean : IsAnswered files (Some (trace i)) due → ((due_answer due).status ≡ Done → DueHolds due)
      → (command_answer files (Some (trace i))).status ≡ Done → PrintsRows files i (command_answer files (Some (trace i))).text
  rows-mean a holds done =
      let ended : (due_answer due).status ≡ Done = ap (λ (x : Answer). x.status) a.answer ∙ done in
      let r = a.rests ended in
      let t = r.0 in
      let h : TracingHolds t = subst DueHolds r.1 (holds ended) in
      record {
        setup = t.setup;
        job = t.job;
        inputs = r.2;
        printed = sym (ap (λ (x : Answer). x.text) a.answer) ∙ ap (λ (d : Due). (due_answer d).text) r.1;
        rows = h.rows;
        spots = h.spots;
      }

-- and of rows in JSON
module _ (files : Contents) (i : Inputs) (due : Due) where
  jsons-mean : IsAnswered files (Some (trace_json i)) due → ((due_answer due).status ≡ Done → DueHolds due)
      → (command_answer files (Some (trace_json i))).status ≡ Done → PrintsJson files i (command_answer files (Some (trace_json i))).text
  jsons-mean a holds done =
      let ended : (due_answer due).status ≡ Done = ap (λ (x : Answer). x.status) a.answer ∙ done in
      let r = a.rests ended in
      let t = r.0 in
      record {
        setup = t.setup;
        job = t.job;
        inputs = r.2;
        printed = sym (ap (λ (x : Answer). x.text) a.answer) ∙ ap (λ (d : Due). (due_answer d).text) r.1;
        rows = subst DueHolds r.1 (holds ended);
      }

-- first-order values, and Seidel sums
module _ (files : Contents) (i : Inputs) (due : Due) where
  values-mean : IsAnswered files (Some (first i)) due → ((due_answer due).status ≡ Done → DueHolds due)
      → (command_answer files (Some (first i))).status ≡ Done → PrintsFirst files i (command_answer files (Some (first i))).text
  values-mean a holds done =
      let ended : (due_answer due).status ≡ Done = ap (λ (x : Answer). x.status) a.answer ∙ done in
      let r = a.rests ended in
      let p = r.0 in
      let h : ValuesHold p.setup p.job = subst DueHolds r.1 (holds ended) in
      record {
        setup = p.setup;
        job = p.job;
        inputs = r.2;
        printed = sym (ap (λ (x : Answer). x.text) a.answer) ∙ ap (λ (d : Due). (due_answer d).text) r.1;
        values = h.values;
        trails = h.trails;
      }

  sums-mean : IsAnswered files (Some (seidel i)) due → ((due_answer due).status ≡ Done → DueHolds due)
      → (command_answer files (Some (seidel i))).status ≡ Done → PrintsSums files i (command_answer files (Some (seidel i))).text
  sums-mean a holds done =
      let ended : (due_answer due).status ≡ Done = ap (λ (x : Answer). x.status) a.answer ∙ done in
      let r = a.rests ended in
      let p = r.0 in
      record {
        setup = p.setup;
        job = p.job;
        inputs = r.2;
        printed = sym (ap (λ (x : Answer). x.text) a.answer) ∙ ap (λ (d : Due). (due_answer d).text) r.1;
        sums = subst DueHolds r.1 (holds ended);
      }

command-means : (files : Contents) (c : Option Command) (due : Due) → IsAnswered files c due → ((due_answer due).status ≡ Done → DueHolds due)
    → Means files c (command_answer files c)
unfolding PrintsWhenDone
command-means files None due a holds = tt
command-means files (Some (index c)) due a holds = index-means files c
command-means files (Some (glass agf)) due a holds = λ done. tt
command-means files (Some (read zmx)) due a holds = λ done. tt
command-means files (Some (trace i)) due a holds = λ done. rows-mean files i due a holds done
command-means files (Some (trace_json i)) due a holds = λ done. jsons-mean files i due a holds done
command-means files (Some (first i)) due a holds = λ done. values-mean files i due a holds done
command-means files (Some (seidel i)) due a holds = λ done. sums-mean files i due a holds done

-- what is due is the outcome, and means what the words ask for
pub outcome-is : (files : Contents) (words : List (List ℕ)) → command_answer files (command_of words) ≡ outcome files words
unfolding top.outcome
outcome-is files words = refl

pub outcome-means : (files : Contents) (words : List (List ℕ)) (due : Due) → IsAnswered files (command_of words) due
    → ((due_answer due).status ≡ Done → DueHolds due) → Means files (command_of words) (outcome files words)
unfolding top.outcome
outcome-means files words due a holds = command-means files (command_of words) due a holds
