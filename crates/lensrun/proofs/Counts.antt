-- What a shelf counts while files are taken one after another.
use Rattle.std.proofs.Common.{◌≡◌, ◌≢◌, ℕ, suc, ◌+◌, ◌*◌, ◌≤◌, [], length, take, Option, Some, None, sym, ap, subst, ◌∙◌, append-nil, arith}
use Rattle.lensio.specs.Count.{Rose, RoseBy}
use Rattle.lensio.specs.TakenLaws.{Takes-trans, TakesFront-whole}
use Rattle.lensmodel.specs.declared.status.Status.{Status}
use Rattle.lensmodel.specs.declared.status.Status.TheVariants.{Absent, ReadFault, TooLong, Memory}
use Rattle.lensrun.specs.Found.{IsCounted}

pub some-none : {A : Type 0} (a : A) → None ≢ Some a
some-none a e = cc

rose-from : (n a b c : ℕ) → a ≤ b → RoseBy n b c → RoseBy n a c
rose-from n a b c h r = omega (arith, h, r)

module _ (end : Option Status) (n m f f' f'' a a' a'' g g' g'' : ℕ) where
  -- files that were taken, and then others
  pub counted-then : IsCounted None n f f' a a' g g' → IsCounted end m f' f'' a' a'' g' g'' → IsCounted end (n + m) f f'' a a'' g g''
  counted-then h k =
      let calm : f' ≡ f = h.calm (some-none ReadFault) in
      let found : a' ≡ a = h.found (some-none Absent) in
      let within : g' ≤ g + n * 16_777_216 = h.within (some-none TooLong) in
      record {
        absent = λ e. subst (λ x. Rose x a'') found (k.absent e);
        read_fault = λ e. subst (λ x. Rose x f'') calm (k.read_fault e);
        too_long = λ e. rose-from 16_777_217 g g' g'' h.given_rises (k.too_long e);
        calm = λ e. k.calm e ∙ calm;
        found = λ e. k.found e ∙ found;
        within = λ e. let more = k.within e in omega (arith, within, more);
        given_rises = omega (arith, h.given_rises, k.given_rises);
      }

module _ (end : Option Status) (n m f f' a a' g g' : ℕ) where
  -- of at most so many files
  pub counted-most : n ≤ m → IsCounted end n f f' a a' g g' → IsCounted end m f f' a a' g g'
  counted-most l h = record {
    absent = h.absent;
    read_fault = h.read_fault;
    too_long = h.too_long;
    calm = h.calm;
    found = h.found;
    within = λ e. let w = h.within e in omega (arith, l, w);
    given_rises = h.given_rises;
  }

-- one file that was taken, and then others
pub counted-next : (end : Option Status) (m f f' f'' a a' a'' g g' g'' : ℕ) → IsCounted None 1 f f' a a' g g' → IsCounted end m f' f'' a' a'' g' g''
    → IsCounted end (suc m) f f'' a a'' g g''
counted-next end m f f' f'' a a' a'' g g' g'' h k =
    counted-most end (1 + m) (suc m) f f'' a a'' g g'' (omega arith) (counted-then end 1 m f f' f'' a a' a'' g g' g'' h k)

-- ---- the names that a shelf was asked for
