-- Document 01, "Frames": "lines of hexadecimal, capitals".
use Rattle.std.specs.Prelude.{Bool, cond, ◌||◌, List, [], ◌∷◌, ℕ, ◌+◌, ◌-◌, ◌*◌, ◌/◌, ◌%◌, ltb, leb}
use Rattle.std.specs.List.{list_all}
use Rattle.rule.specs.Limits.{within}

-- 0 to 9 are the bytes 30 to 39 hexadecimal, A to F the bytes 41 to 46.
abbrev pub is_digit : ℕ → Bool
is_digit c = within 0x30 0x39 c || within 0x41 0x46 c

abbrev pub digit_value : ℕ → ℕ
digit_value c = cond (leb c 0x39) (c - 0x30) (c - 0x37)

-- The digit of a number below 16.
abbrev pub digit_of : ℕ → ℕ
digit_of v = cond (ltb v 10) (v + 0x30) (v + 0x37)

unfoldable pub all_digits : List ℕ → Bool
all_digits line = list_all is_digit line

-- The bytes that a line's digits stand for, two a byte.
unfoldable pub bytes_of : List ℕ → List ℕ
bytes_of [] = []
bytes_of (h ∷ []) = []
bytes_of (h ∷ l ∷ cs) = (digit_value h * 16 + digit_value l) ∷ bytes_of cs

-- The digits of bytes.
unfoldable pub digits_of : List ℕ → List ℕ
digits_of [] = []
digits_of (b ∷ bs) = digit_of (b / 16) ∷ digit_of (b % 16) ∷ digits_of bs
