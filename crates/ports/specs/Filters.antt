-- The calls by two ports (01, "Port pairs"): which pair they name, and what its row in the lent words answers. Assumes nothing.
use Rattle.std.specs.Prelude.{Bool, ◌&&◌, not, cond, List, ℕ, ◌+◌, ◌*◌, ◌-◌, eqb, ltb, leb, replicate}
use Rattle.words.specs.Rows.{row_at, put_at}
use Rattle.answers.specs.Answers.{Said, plain, Outcome, outcome}
use Rattle.pairs.specs.declared.Command.{Command}
use Rattle.pairs.specs.Pairs.{Pair, replied, decided_by}
use Rattle.pairs.specs.Row.{pair_in, row_after, width, pairs}

-- "two different ports, each 1..4"
unfoldable pub two_ports : ℕ → ℕ → Bool
two_ports f t = leb 1 f && (leb f 4 && (leb 1 t && (leb t 4 && not (eqb f t))))

-- the number of a pair, 0 to 11, rising by its first port and then by its second; 12 where they are no pair
unfoldable pub pair_of : ℕ → ℕ → ℕ
pair_of f t = cond (two_ports f t) ((f - 1) * 3 + cond (ltb t f) (t - 1) (t - 2)) pairs

-- filters that are fresh: every pair has mode 0 and an empty list
unfoldable pub fresh_words : List ℕ
fresh_words = replicate (pairs * width) 0

-- a pair's words, and what they mean
abbrev pub pair_row : List ℕ → ℕ → ℕ → List ℕ
pair_row w f t = row_at width w (pair_of f t)

abbrev pub pair_at : List ℕ → ℕ → ℕ → Pair
pair_at w f t = pair_in (pair_row w f t)

-- a command: 15, or its answer by what the pair means, and the pair's own row afterwards; all other words stay
unfoldable pub commanded : List ℕ → ℕ → ℕ → Command → Outcome
commanded w f t c =
    cond (two_ports f t) (outcome (replied (pair_at w f t) c) (put_at width w (pair_of f t) (row_after (pair_row w f t) c))) (outcome (plain 15) w)

-- the deciding call: 15, or the answer by what the pair means
unfoldable pub decided : List ℕ → ℕ → ℕ → ℕ → Said
decided w f t id = cond (two_ports f t) (decided_by (pair_at w f t) id) (plain 15)
