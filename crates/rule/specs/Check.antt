-- Checks made one after another: the first that fails is the refusal.
use Rattle.std.specs.Prelude.{Bool, true, false, Some, None, Ok, Err, Option, Result}
use Rattle.base.specs.declared.refusal.Refusal.{Refusal}

-- an answer, or why the call is refused
abbrev pub Answer : Type 0 → Type 0
Answer A = Result A Refusal

infixl 1 ◌>>=◌
unfoldable pub ◌>>=◌ : {A B E : Type 0} → Result A E → (A → Result B E) → Result B E
Ok a >>= k = k a
Err r >>= k = Err r

-- refused unless the test passes
unfoldable pub check : Bool → Refusal → Answer (Unit {0})
check true r = Ok tt
check false r = Err r

-- refused unless there is one
unfoldable pub demand : {A : Type 0} → Option A → Refusal → Answer A
demand (Some a) r = Ok a
demand None r = Err r
