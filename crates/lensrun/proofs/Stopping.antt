-- A file that gave a value, and one that gave none.
use Rattle.std.proofs.Common.{◌≡◌, ◌≢◌, ◌⊎◌, ℕ, ◌≤◌, List, [], length, inl, inr, Option, Some, None, Result, Ok, Err, refl, sym, ap, subst, ◌∙◌}
use Rattle.std.specs.Prelude.{IfSome, nat_lt, Bool, true, false, if◌then◌else◌}
use Rattle.std.proofs.lemmas.Bool.{le-ltb}
use Rattle.lensio.specs.Held.{Files}
use Rattle.lensmodel.specs.Call.Answer.{Answer, answer, on_file, on_read}
use Rattle.lensmodel.specs.Texts.FaultText.{read_fault_line, absent_line, too_long_line, refused_line}
use Rattle.lensmodel.specs.declared.status.FileKind.{FileKind}
use Rattle.lensmodel.specs.declared.status.Status.{Status}
use Rattle.lensmodel.specs.declared.status.Status.TheVariants.{Done, Usage, Refused, Absent, ReadFault, TooLong, WriteFault, Memory}
use Rattle.lensrun.specs.Due.{due_answer}
use Rattle.lensrun.specs.Found.{IsFound, Stops, Gives, GivesNone, over_file}
use Rattle.lensrun.specs.Promise.{IsDecided}
use Rattle.lensrun.specs.declared.due.Due.{Due}
use Rattle.lensrun.specs.declared.due.Due.TheVariants.{Nothing}

-- what a name has, where it is told
pub look : Option Files → List ℕ → Option (List ℕ)
look None name = None
look (Some files) name = files name

pub look-found : (held : Option Files) (name : List ℕ) → IsFound held name (look held name)
unfolding look
look-found None name = tt
look-found (Some files) name = refl

-- the statuses of answers over a file: none that only the outside or a report decides
abbrev pub IsRefusal : Status → Type 0
IsRefusal Refused = Unit {0}
IsRefusal Absent = Unit {0}
IsRefusal TooLong = Unit {0}
IsRefusal Done = ⊥
IsRefusal Usage = ⊥
IsRefusal ReadFault = ⊥
IsRefusal WriteFault = ⊥
IsRefusal Memory = ⊥

status_of : (a b : Answer) → a ≡ b → a.status ≡ b.status
status_of a b e = ap (λ (x : Answer). x.status) e

module _ {V F : Type 0} (held : Option Files) (kind : FileKind) (name : List ℕ) (cause : F → List ℕ) (reading : List ℕ → Result V F) where
  -- an answer goes on with the value of a file
  pub given : (v : V) (bytes : List ℕ) → length bytes ≤ 16_777_216 → reading bytes ≡ Ok v → (go_on : V → Answer)
      → over_file held kind name cause reading (Some bytes) go_on ≡ go_on v
  given v bytes short is go_on = rw (le-ltb 16_777_216 (length bytes) short, is) refl

  -- an answer that stands whatever would follow is a refusal of the file
  refusal : (found : Option (List ℕ)) (a : Answer) → ((go_on : V → Answer) → a ≡ over_file held kind name cause reading found go_on) → IsRefusal a.status
  unfolding status_of
  refusal None a h = subst (λ (x : Answer). IsRefusal x.status) (sym (h (λ v. answer Usage []))) tt
  refusal (Some bytes) a h = by (nat_lt 16_777_216 (length bytes)) refl
    where
      by_read : (r : Result V F) → ((go_on : V → Answer) → a ≡ on_read kind cause r go_on) → IsRefusal a.status
      by_read (Err f) k = subst (λ (x : Answer). IsRefusal x.status) (sym (k (λ v. answer Usage []))) tt
      by_read (Ok v) k =
          let one : a.status ≡ Usage = status_of a (answer Usage []) (k (λ v. answer Usage [])) in
          let other : a.status ≡ Memory = status_of a (answer Memory []) (k (λ v. answer Memory [])) in
          absurd (cc (sym one ∙ other))

      by : (b : Bool) → nat_lt 16_777_216 (length bytes) ≡ b → IsRefusal a.status
      by true e = subst (λ (x : Answer). IsRefusal x.status) (sym (rw e at h (λ v. answer Usage []))) tt
      by false e = by_read (reading bytes) (λ go_on. rw e at h go_on)

  -- how a file ends that gave no value
  pub stop_status : (due : Due) → GivesNone held kind name cause reading due
      → ((due_answer due).status ≡ Memory × due ≡ Nothing)
      ⊎ ((due_answer due).status ≡ ReadFault × (due_answer due).text ≡ read_fault_line kind)
      ⊎ IsRefusal (due_answer due).status
  stop_status due (inl is) = inl (ap (λ (d : Due). (due_answer d).status) is, is)
  stop_status due (inr (inl is)) = inr (inl (ap (λ (x : Answer). x.status) is, ap (λ (x : Answer). x.text) is))
  stop_status due (inr (inr h)) = inr (inr (refusal h.0 (due_answer due) h.2))

  -- what it answers where the outside doesn't decide
  pub stopped : (due : Due) → GivesNone held kind name cause reading due → IsDecided (due_answer due).status
      → (found : Option (List ℕ)) × IsFound held name found × ((go_on : V → Answer) → due_answer due ≡ over_file held kind name cause reading found go_on)
  stopped due (inl is) decided = absurd (subst (λ (d : Due). IsDecided (due_answer d).status) is decided)
  stopped due (inr (inl is)) decided = absurd (subst (λ (x : Answer). IsDecided x.status) is decided)
  stopped due (inr (inr h)) decided = h

  pub no_report : (due : Due) → GivesNone held kind name cause reading due → (due_answer due).status ≢ Done
  no_report due h e = elim (stop_status due h) [
    | inl m ↦ cc (sym e ∙ m.0)
    | inr (inl f) ↦ cc (sym e ∙ f.0)
    | inr (inr r) ↦ subst IsRefusal e r
  ]

  pub no_write : (due : Due) → GivesNone held kind name cause reading due → (due_answer due).status ≢ WriteFault
  no_write due h e = elim (stop_status due h) [
    | inl m ↦ cc (sym e ∙ m.0)
    | inr (inl f) ↦ cc (sym e ∙ f.0)
    | inr (inr r) ↦ subst IsRefusal e r
  ]

  pub is_nothing : (due : Due) → GivesNone held kind name cause reading due → (due_answer due).status ≡ Memory → due ≡ Nothing
  is_nothing due h e = elim (stop_status due h) [
    | inl m ↦ m.1
    | inr (inl f) ↦ absurd (cc (sym e ∙ f.0))
    | inr (inr r) ↦ absurd (subst IsRefusal e r)
  ]

  pub fault_line : (due : Due) → GivesNone held kind name cause reading due → (due_answer due).status ≡ ReadFault → (due_answer due).text ≡ read_fault_line kind
  fault_line due h e = elim (stop_status due h) [
    | inl m ↦ absurd (cc (sym e ∙ m.0))
    | inr (inl f) ↦ f.1
    | inr (inr r) ↦ absurd (subst IsRefusal e r)
  ]
