-- The held keys one after another, rising by source, destination and k (01, "The listing program"). On any words: a row counts whose key is a number
-- below 2^24, as every key's is.
-- Assumes nothing.
use Rattle.std.specs.Prelude.{ℕ, zero, suc, ◌+◌, ◌<◌, ◌≡◌, ◌⊎◌, Bool, cond, ◌&&◌, List, [], ◌∷◌, leb, ltb, Option as Known, Some, None}
use Rattle.std.proofs.Math.Option.{Option, none, some}
use Rattle.words.specs.First.{first}
use Rattle.message.specs.declared.Key.{Key}
use Rattle.history.specs.History.{most_keys}
use Rattle.keyrow.specs.Row.{key_number, key_numbers, key_named}
use Rattle.lookup.specs.declared.Walk.{Walk}
use Rattle.lookup.specs.Layout.{slot_of}

-- the code's option as this one
abbrev pub key_found : Known Key → Option Key
key_found (Some k) = some k
key_found None = none

-- some row holds the key with this number
abbrev pub holds_key : List ℕ → ℕ → Bool
holds_key t key = ltb (slot_of t key) most_keys

-- the lowest number of a held key, from a number on; 2^24 where there is none
unfoldable pub lowest_from : List ℕ → ℕ → ℕ
lowest_from t from = first (λ key. leb from key && holds_key t key) key_numbers

-- the key with that number, if it is one
abbrev pub key_at : ℕ → Option Key
key_at x = cond (ltb x key_numbers) (some (key_named x)) none

-- the lowest held key, and the lowest above a given one
abbrev pub first_key : List ℕ → Option Key
first_key t = key_at (lowest_from t 0)

abbrev pub next_key : List ℕ → Key → Option Key
next_key t k = key_at (lowest_from t (key_number k + 1))

-- ---- call after call

-- the keys that a call gave and the calls after it give, n of them at most
unfoldable pub walk : ℕ → List ℕ → Option Key → List Key
walk zero t given = []
walk (suc n) t none = []
walk (suc n) t (some k) = k ∷ walk n t (next_key t k)

-- the held keys, as first_key and then next_key give them
abbrev pub held_keys : List ℕ → List Key
held_keys t = walk most_keys t (first_key t)

-- the keys that a walk of the code still gives
abbrev pub keys_left : Walk → List Key
keys_left w = walk w.left w.t.now (key_found w.next)

-- "rising by source, destination, k"
abbrev pub Below : Key → Key → Type 0
Below a b =
    (a.source < b.source)
    ⊎ ((a.source ≡ b.source) × ((a.destination < b.destination) ⊎ ((a.destination ≡ b.destination) × (a.k < b.k))))

abbrev pub AllAbove : Key → List Key → Type 0
AllAbove k [] = Unit {0}
AllAbove k (j ∷ ks) = Below k j × AllAbove k ks

abbrev pub Rising : List Key → Type 0
Rising [] = Unit {0}
Rising (k ∷ ks) = AllAbove k ks × Rising ks
