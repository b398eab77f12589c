-- A chain of steps gives a value exactly where each step gives one.
use Rattle.std.proofs.Common.{◌≡◌, Bool, true, false, Option, Some, None, Result, Ok, Err, refl}
use Rattle.std.specs.Prelude.{IsSomeAnd}
use Rattle.fx_math.specs.Faults.{◌>>=◌, or_fault, unless}

pub bind_ok : {F A B : Type 0} (r : Result A F) (f : A → Result B F) (y : B) → (r >>= f) ≡ Ok y →
    (x : A) × (r ≡ Ok x) × (f x ≡ Ok y)
bind_ok (Ok x) f y h = (x, refl, h)
bind_ok (Err e) f y h = absurd cc

pub bind_stands : {F A B : Type 0} (r : Result A F) (f : A → Result B F) (x : A) (y : B) → r ≡ Ok x →
    f x ≡ Ok y → (r >>= f) ≡ Ok y
bind_stands r f x y h k = rw h k

pub same_ok : {F A : Type 0} (x y : A) → ◌≡◌ {A = Result A F} (Ok x) (Ok y) → x ≡ y
same_ok x y h = cc

pub fault_ok : {F A : Type 0} (e : F) (o : Option A) (x : A) → or_fault e o ≡ Ok x → o ≡ Some x
fault_ok e (Some y) x h = let same : y ≡ x = cc in rw same refl
fault_ok e None x h = absurd cc

pub ok_stands : {F A : Type 0} (e : F) (o : Option A) (x : A) → o ≡ Some x → or_fault e o ≡ Ok x
ok_stands e o x h = rw h refl

pub unless_ok : {F : Type 0} (e : F) (b : Bool) (u : Unit {0}) → unless e b ≡ Ok u → b ≡ true
unless_ok e true u h = refl
unless_ok e false u h = absurd cc

pub some_and : {A : Type 0} (o : Option A) (P : A → Type 0) → IsSomeAnd o P → (x : A) × (o ≡ Some x) × P x
some_and None P h = absurd h
some_and (Some x) P h = (x, refl, h)

pub and_some : {A : Type 0} (o : Option A) (P : A → Type 0) (x : A) → o ≡ Some x → P x → IsSomeAnd o P
and_some o P x h p = rw h p

pub fault_err : {F A : Type 0} (e g : F) (o : Option A) → or_fault e o ≡ Err g → (o ≡ None) × (e ≡ g)
fault_err e g None h = (refl, cc)
fault_err e g (Some x) h = absurd cc

pub test_err : {F : Type 0} (e g : F) (b : Bool) → unless e b ≡ Err g → (b ≡ false) × (e ≡ g)
test_err e g true h = absurd cc
test_err e g false h = (refl, cc)

-- a chain fails in its first step or behind it
pub in_step : {F A B W : Type 0} (r : Result A F) (f : A → Result B F) (e : F) → (r >>= f) ≡ Err e →
    (r ≡ Err e → W) → ((x : A) → r ≡ Ok x → f x ≡ Err e → W) → W
in_step (Ok x) f e h first later = later x refl h
in_step (Err g) f e h first later = first cc

pub none_and : {A : Type 0} (o : Option A) (P : A → Type 0) → o ≡ None → ¬ IsSomeAnd o P
none_and o P h is = rw h at is
