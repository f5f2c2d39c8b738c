-- Bytes that are known over several calls of a reader or a writer.
use Rattle.std.proofs.Common.{◌∙◌, ℕ, List, append-nil, sym}
use Rattle.std.specs.Prelude.{Option, Some, None, IsSome, Result, Ok, Err, IfOk, OnErr, take, refl}
use Rattle.std.specs.Io.KnownBytes.{Keeps, Appends, WriteAppends}
use Rattle.lensio.specs.Taken.{Takes, TakesFront}

-- bytes that a writer tells at each time, or at none
told_bytes : (a b : Option (List ℕ)) (bs : List ℕ) → (IsSome b → IsSome a) → Appends a b bs → Takes a b bs
told_bytes a None bs told h = tt
told_bytes None (Some y) bs told h = absurd (cc (told refl))
told_bytes (Some x) (Some y) bs told h = h

told_kept : (a b : Option (List ℕ)) (bs : List ℕ) → (IsSome b → IsSome a) → Keeps a b → TakesFront a b bs
told_kept a None bs told h = (0, tt)
told_kept None (Some y) bs told h = absurd (cc (told refl))
told_kept (Some x) (Some y) bs told h = (0, h ∙ sym (append-nil x))

-- what was written by it
pub Takes-written : {E : Type 0} (a b : Option (List ℕ)) (r : Result ℕ E) (buf : List ℕ) → (IsSome b → IsSome a) → WriteAppends a b r buf → IfOk r (λ n. Takes a b (take n buf))
Takes-written a b (Ok n) buf told h = told_bytes a b (take n buf) told h
Takes-written a b (Err e) buf told h = tt

-- a write that failed wrote nothing
pub TakesFront-kept : {E : Type 0} (a b : Option (List ℕ)) (r : Result ℕ E) (buf : List ℕ) → (IsSome b → IsSome a) → WriteAppends a b r buf → OnErr r (TakesFront a b buf)
TakesFront-kept a b (Ok n) buf told h = tt
TakesFront-kept a b (Err e) buf told h = told_kept a b buf told h
