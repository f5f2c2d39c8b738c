-- What a shelf gave of a file, by what its reading answered.
use Rattle.std.proofs.Common.{◌≡◌, ◌≢◌, ◌⊎◌, ℕ, zero, suc, ◌+◌, ◌<◌, ◌≤◌, List, [], ◌∷◌, length, inl, inr, Option, Some, None, Result, Ok, Err, refl, sym, ap, subst, ◌∙◌, arith}
use Rattle.std.specs.Prelude.{IfSome, IsSomeAnd, nat_lt}
use Rattle.std.proofs.lemmas.Bool.{cases_lt, lt-ltb, le-ltb}
use Rattle.lensio.specs.Count.{Rose, RoseBy, plus}
use Rattle.lensio.specs.Held.{Files, HoldsMore, Lacks}
use Rattle.lensio.specs.declared.transfer.SlurpFault.{SlurpFault}
use Rattle.lensio.specs.declared.transfer.SlurpFault.TheVariants as slurped
use Rattle.lensmodel.specs.Call.Answer.{Answer, answer, on_file, on_read}
use Rattle.lensmodel.specs.Texts.FaultText.{refused_line}
use Rattle.lensmodel.specs.declared.status.FileKind.{FileKind}
use Rattle.lensmodel.specs.declared.status.Status.{Status}
use Rattle.lensmodel.specs.declared.status.Status.TheVariants.{Refused, Absent, ReadFault, TooLong, Memory}
use Rattle.lensrun.specs.Due.{due_answer, unread_answer}
use Rattle.lensrun.specs.Found.{IsFound, IsUnread, Stops, Gives, GivesNone, IsCounted, over_file}
use Rattle.lensrun.specs.declared.due.Due.{Due}
use Rattle.lensrun.specs.declared.due.Due.TheVariants.{Nothing}

-- ---- bytes that weren't read
long : (n : ℕ) → (bytes : List ℕ) × (n < length bytes)
long zero = (0 ∷ [], omega arith)
long (suc n) = let more = long n in (0 ∷ more.0, omega (arith, more.1))

module _ (file : FileKind) (name : List ℕ) (due : Due) where
  too_long : (bytes : List ℕ) → 16_777_216 < length bytes → due_answer due ≡ unread_answer file slurped.TooLong → (go_on : List ℕ → Answer)
      → due_answer due ≡ on_file file (Some bytes) go_on
  too_long bytes h e go_on = e ∙ rw (lt-ltb 16_777_216 (length bytes) h) refl

  -- more bytes than a file may have
  found_long : (found : Option (List ℕ)) → IsSomeAnd found (λ bytes. 16_777_216 < length bytes) → due_answer due ≡ unread_answer file slurped.TooLong
      → (go_on : List ℕ → Answer) → due_answer due ≡ on_file file found go_on
  found_long None h e go_on = absurd h
  found_long (Some bytes) h e go_on = too_long bytes h e go_on

  unread_long : (held : Option Files) → HoldsMore held name 16_777_216 → due_answer due ≡ unread_answer file slurped.TooLong → IsUnread held file name due
  unread_long None h e = let l = long 16_777_216 in inr (inr (Some l.0, tt, λ go_on. too_long l.0 l.1 e go_on))
  unread_long (Some files) h e = inr (inr (files name, refl, λ go_on. found_long (files name) h e go_on))

  pub unread-is : (held : Option Files) (fault : SlurpFault) → (fault ≡ slurped.Absent → Lacks held name)
      → (fault ≡ slurped.TooLong → HoldsMore held name 16_777_216) → due_answer due ≡ unread_answer file fault → (fault ≡ slurped.Memory → due ≡ Nothing)
      → IsUnread held file name due
  unread-is held slurped.Absent lacks more e nothing = inr (inr (None, lacks refl, λ go_on. e))
  unread-is held slurped.Fault lacks more e nothing = inr (inl e)
  unread-is held slurped.TooLong lacks more e nothing = unread_long held (more refl) e
  unread-is held slurped.Memory lacks more e nothing = inl (nothing refl)

  -- ---- what was counted
  status-is : (fault : SlurpFault) → due_answer due ≡ unread_answer file fault → (due_answer due).status ≡ (unread_answer file fault).status
  status-is fault e = ap (λ (x : Answer). x.status) e

  pub unread-counts : (fault : SlurpFault) (f f' a a' g g' : ℕ) → due_answer due ≡ unread_answer file fault
      → (fault ≡ slurped.Absent → Rose a a') → (fault ≡ slurped.Fault → Rose f f') → (fault ≢ slurped.Fault → f' ≡ f) → (fault ≢ slurped.Absent → a' ≡ a)
      → (fault ≡ slurped.TooLong → g' ≡ plus g 16_777_217) → (g + 16_777_216 < g' → fault ≡ slurped.TooLong) → g ≤ g'
      → IsCounted (Some (due_answer due).status) 1 f f' a a' g g'
  unread-counts fault f f' a a' g g' e absent failed calm found too_long where_long rises = record {
    absent = λ is. absent (by_absent fault (some-same is) e);
    read_fault = λ is. failed (by_fault fault (some-same is) e);
    too_long = λ is. let r = too_long (by_long fault (some-same is) e) in omega (arith, r);
    calm = λ not. calm (λ is. not (ap Some (status-is fault e ∙ ap (λ x. (unread_answer file x).status) is)));
    found = λ not. found (λ is. not (ap Some (status-is fault e ∙ ap (λ x. (unread_answer file x).status) is)));
    within = λ not. elim (cases_lt (g + 16_777_216) g') [
      | inl more ↦ absurd (not (ap Some (status-is fault e ∙ ap (λ x. (unread_answer file x).status) (where_long more))))
      | inr no_more ↦ omega (arith, no_more)
    ];
    given_rises = rises;
  }
    where
      some-same : {s t : Status} → Some s ≡ Some t → s ≡ t
      some-same is = cc is

      by_absent : (fault : SlurpFault) → (due_answer due).status ≡ Absent → due_answer due ≡ unread_answer file fault → fault ≡ slurped.Absent
      by_absent slurped.Absent s e = refl
      by_absent slurped.Fault s e = absurd (cc (sym s ∙ ap (λ (x : Answer). x.status) e))
      by_absent slurped.TooLong s e = absurd (cc (sym s ∙ ap (λ (x : Answer). x.status) e))
      by_absent slurped.Memory s e = absurd (cc (sym s ∙ ap (λ (x : Answer). x.status) e))

      by_fault : (fault : SlurpFault) → (due_answer due).status ≡ ReadFault → due_answer due ≡ unread_answer file fault → fault ≡ slurped.Fault
      by_fault slurped.Fault s e = refl
      by_fault slurped.Absent s e = absurd (cc (sym s ∙ ap (λ (x : Answer). x.status) e))
      by_fault slurped.TooLong s e = absurd (cc (sym s ∙ ap (λ (x : Answer). x.status) e))
      by_fault slurped.Memory s e = absurd (cc (sym s ∙ ap (λ (x : Answer). x.status) e))

      by_long : (fault : SlurpFault) → (due_answer due).status ≡ TooLong → due_answer due ≡ unread_answer file fault → fault ≡ slurped.TooLong
      by_long slurped.TooLong s e = refl
      by_long slurped.Fault s e = absurd (cc (sym s ∙ ap (λ (x : Answer). x.status) e))
      by_long slurped.Absent s e = absurd (cc (sym s ∙ ap (λ (x : Answer). x.status) e))
      by_long slurped.Memory s e = absurd (cc (sym s ∙ ap (λ (x : Answer). x.status) e))

-- ---- a value that wasn't read
module _ {V F : Type 0} (held : Option Files) (file : FileKind) (name : List ℕ) (cause : F → List ℕ) (reading : List ℕ → Result V F) (due : Due) where
  -- a file without bytes has no value
  pub none-unread : IsUnread held file name due → GivesNone held file name cause reading due
  none-unread (inl is) = inl is
  none-unread (inr (inl is)) = inr (inl is)
  none-unread (inr (inr h)) = inr (inr (h.0, h.1, λ go_on. h.2 (λ bytes. on_read file cause (reading bytes) go_on)))

  -- a file that is refused, or for whose value memory was wanting
  pub none-refused : (bytes : List ℕ) (fault memory : F) → IsFound held name (Some bytes) → length bytes ≤ 16_777_216
      → (fault ≡ memory) ⊎ (fault ≢ memory) → (fault ≢ memory → reading bytes ≡ Err fault)
      → (fault ≢ memory → due_answer due ≡ answer Refused (refused_line file (cause fault))) → (fault ≡ memory → due ≡ Nothing)
      → GivesNone held file name cause reading due
  none-refused bytes fault memory found short (inl is) reads refused nothing = inl (nothing is)
  none-refused bytes fault memory found short (inr not) reads refused nothing =
      let r : reading bytes ≡ Err fault = reads not in
      inr (inr (Some bytes, found, λ go_on. refused not ∙ rw (le-ltb 16_777_216 (length bytes) short, r) refl))
