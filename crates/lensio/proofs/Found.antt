-- A file found by its name.
use Rattle.std.proofs.Common.{◌≡◌, ℕ, ◌<◌, ◌+◌, List, ◌∷◌, length, drop, get_or, slice_get, Some, IsSomeAnd, Vec, true, nat_eq, if◌then◌else◌, ap, sym, ◌∙◌, subst}
use Rattle.std.specs.Cmp.Lexicographic.{pointwise}
use Rattle.std.specs.declared.alloc.Global.{Global}
use Rattle.std.proofs.lemmas.List.{drop_more}
use Rattle.std.proofs.lemmas.Option.{slice_get-get_or}
use Rattle.lensio.specs.Memory.{first_named, files_in}

-- the first of the files behind a place has the name, and none before it
pub found_here : (files : List (Vec ℕ Global × Vec ℕ Global)) (name : List ℕ) (i : ℕ) (file : Vec ℕ Global × Vec ℕ Global) → i < length files → file ≡ get_or files i file → first_named (files_in files) name ≡ first_named (files_in (drop i files)) name → pointwise nat_eq file.0.items name ≡ true → IsSomeAnd (slice_get files i) (λ f. first_named (files_in files) name ≡ Some f.1.items)
found_here files name i file lt is so_far same =
    let rest = drop (i + 1) files in
    let found : first_named (files_in files) name ≡ Some file.1.items =
    so_far
    ∙ ap (λ fs. first_named (files_in fs) name) (drop_more files i file lt ∙ ap (λ f. f ∷ rest) (sym is))
    ∙ ap (λ b. if b then Some file.1.items else first_named (files_in rest) name) same in
    subst (λ o. IsSomeAnd o (λ f. first_named (files_in files) name ≡ Some f.1.items)) (sym (slice_get-get_or files i file lt ∙ ap Some (sym is))) found
