-- What the words of a script mean.
use Rattle.std.specs.List.{list_all}
use Rattle.std.specs.Prelude.{ℕ, ◌+◌, ◌-◌, ◌*◌, ◌<◌, Bool, true, false, cond, List, length, Some, None, fold, Option, ◌==◌, ◌≢◌, nat_le, slice_index}

abbrev pub within : ℕ → ℕ → ℕ → Bool
within low high b = cond (nat_le low b) (nat_le b high) false

abbrev pub up_to : ℕ → ℕ → Option ℕ
up_to limit n = cond (nat_le n limit) (Some n) None

-- a number that one digit more is written behind; none if that is no digit, or too much
abbrev pub with_digit : ℕ → Option ℕ → ℕ → Option ℕ
with_digit limit None b = None
with_digit limit (Some n) b = cond (within 48 57 b) (up_to limit (n * 10 + (b - 48))) None

-- nothing yet; none if no digit follows
abbrev pub before_digits : List ℕ → Option ℕ
before_digits word = cond (length word == 0) None (Some 0)

-- a word of digits, at least one, as a number up to a limit
abbrev pub number_of : ℕ → List ℕ → Option ℕ
number_of limit word = fold (with_digit limit) (before_digits word) word

-- the value of a hex digit in lower case
abbrev pub nibble_of : ℕ → Option ℕ
nibble_of b = cond (within 48 57 b) (Some (b - 48)) (cond (within 97 102 b) (Some (b - 87)) None)

abbrev pub is_nibble : ℕ → Bool
is_nibble b = cond (within 48 57 b) true (within 97 102 b)

abbrev pub all_nibbles : List ℕ → Bool
all_nibbles word = list_all is_nibble word

-- no byte of the first n is the mark
abbrev pub Unbroken : ℕ → List ℕ → ℕ → Type 0
Unbroken mark text n = (i : ℕ) → i < n → slice_index text i ≢ mark
