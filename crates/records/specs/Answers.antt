-- What follows from several clauses of one answer.
use Rattle.std.specs.Prelude.{Result, Ok, Err, OnOk}

pub on_ok2 : {T E : Type 0} {A B X : Type 0} (r : Result T E) → (A → B → X) → OnOk r A → OnOk r B → OnOk r X
on_ok2 (Ok u) f a b = f a b
on_ok2 (Err e) f a b = tt

pub on_ok4 : {T E : Type 0} {A B C D X : Type 0} (r : Result T E) → (A → B → C → D → X) → OnOk r A → OnOk r B → OnOk r C → OnOk r D → OnOk r X
on_ok4 (Ok u) f a b c d = f a b c d
on_ok4 (Err e) f a b c d = tt
