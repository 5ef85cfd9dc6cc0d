-- What is counted of a log (01, "The listing program"): its records, and what was answered to them. Assumes nothing.
use Rattle.std.specs.Prelude.{ℕ, ◌+◌, ◌%◌, ◌^◌, Bool, cond, ◌&&◌, ◌||◌, ◌==◌, nat_le}
use Rattle.feeding.specs.declared.Counts.{Counts}

-- "OTHER answer 2"
abbrev pub is_other : ℕ → Bool
is_other number = number == 2

-- "REFUSED answers 1 and 3 to 9"
abbrev pub is_refused : ℕ → Bool
is_refused number = number == 1 || (nat_le 3 number && nat_le number 9)

-- counts are numbers of 64 bits: the exact count modulo 2^64. This is the one place where a listing says less than 01, and no log is that long
abbrev pub wrapped : ℕ → ℕ
wrapped n = n % 2 ^ 64

-- nothing counted yet
abbrev pub no_counts : Counts
no_counts = record { records = 0; refused = 0; other = 0 }

-- one record more, that was answered with this number
abbrev pub with_answer : Counts → ℕ → Counts
with_answer c number = record {
  records = wrapped (c.records + 1);
  refused = wrapped (c.refused + cond (is_refused number) 1 0);
  other = wrapped (c.other + cond (is_other number) 1 0);
}
