-- The position at which a key answers, by what finding the SPN in its map gave; and the message of that position, as the key's row has it. Assumes nothing.
use Prim.Native.Nat.{ℕ, ◌<◌}
use native.Mathlib.Omega.{arith}
use mathlib.Core.Path.{◌≡◌, refl, ap, ◌∙◌}
use mathlib.Core.Bool.{Bool, true, false, cond, and-false}
use mathlib.Core.Option.{Option, none, some}
use mathlib.Core.List.{List}
use lib.Dec.{eqb, ltb}
use borrow.Author.Tests.{eq-eqb, eqb-true, eqb-false, lt-ltb, ne_eqb}
use Rattle.words.proofs.Tests.{test, never}
use Rattle.answers.specs.Answers.{plain}
use Rattle.message.specs.declared.Key.{Key}
use Rattle.message.specs.declared.Head.{Head}
use Rattle.maps.specs.Maps.{Map, Conflict}
use Rattle.judge.specs.Judge.{Param, is_none, start_in, usable, params_of}
use Rattle.history.specs.History.{most_keys}
use Rattle.keyrow.specs.Row.{key_number, state_word, form_word}
use Rattle.keyrow.specs.View.{head_of, row_as, row_map}
use Rattle.lookup.specs.Layout.{row_of, slot_of}
use Rattle.lookup.specs.View.{map_in, row_for}
use Rattle.ask.specs.Ask.{Finding, position_of, found_by, Standing, stands_by, standing, nowhere}
use Rattle.ask.proofs.Calls.{usable-held}
use Rattle.open.specs.Open.{is_held}
use Rattle.locate.specs.Locate.{tells, head_in, placement}
use Rattle.locate.specs.Parts.{position_told, message_at}
use Rattle.locate.proofs.Keys.{tells-three}

-- ---- n and the flags of a usable map are those of its row

head-row : (width_of : ℕ → ℕ) (row : List ℕ) → usable width_of (row_map row) ≡ true → head_of (form_word row) ≡ head_in (row_map row)
unfolding row_map
head-row width_of row = go (eqb (state_word row) 1)
  where
    go : (b : Bool) → usable width_of (cond b (row_as row) Conflict) ≡ true → head_of (form_word row) ≡ head_in (cond b (row_as row) Conflict)
    go true u = refl
    go false u = never u refl

head-is : (width_of : ℕ → ℕ) (t : List ℕ) (k : Key) → usable width_of (map_in t k) ≡ true → head_of (form_word (row_for t k)) ≡ head_in (map_in t k)
unfolding map_in row_for
head-is width_of t k =
    test (ltb (slot_of t (key_number k)) most_keys) (λ h. rw h (head-row width_of (row_of t (slot_of t (key_number k))))) (λ n. rw n (λ u. never u refl))

-- ---- the position

module _ (width_of : ℕ → ℕ) (own spn : ℕ) (k : Key) (m : Map) where
  -- a key of another address
  pub not_ours : (k.source ≡ own → ⊥) → 0 ≡ position_told width_of own spn k m
  unfolding position_told
  not_ours n = rw (ne_eqb k.source own n)

  -- of a key of our own: what finding gave, which is 0 on a refusal
  pub found_position : k.source ≡ own → (f : Finding) → f ≡ found_by width_of m spn → f.position ≡ position_told width_of own spn k m
  unfolding found_by position_told
  found_position s f e =
      ap (λ (x : Finding). x.position) e
      ∙ test (usable width_of m)
      (λ u. test (eqb (position_of width_of m spn) 0)
      (λ z. rw (usable-held width_of m u, u, eqb-true (position_of width_of m spn) 0 z, and-false (eqb k.source own)))
      (λ q. let l : 0 < position_of width_of m spn = above_zero (eqb-false (position_of width_of m spn) 0 q) in
      rw (usable-held width_of m u, u, q, eq-eqb k.source own s, lt-ltb 0 (position_of width_of m spn) l)))
      (λ u. test (is_held m) (λ h. rw (h, u, and-false (eqb k.source own))) (λ h. rw (h, u, and-false (eqb k.source own))))
    where
      above_zero : {n : ℕ} → (n ≡ 0 → ⊥) → 0 < n
      above_zero h = omega (arith, h)

-- ---- the message

-- from the row's n and flags, and what stands at the position
pub message_made : (width_of : ℕ → ℕ) (t : List ℕ) (spn : ℕ) (k : Key) (p : ℕ) (h : Head) → h ≡ head_of (form_word (row_for t k)) → (x : Standing) → x ≡ stands_by width_of (map_in t k) p
    → record { key = k; head = h; position = p; place = record { spn = spn; start = x.start } } ≡ message_at width_of t spn k p
message_made width_of t spn k p h e x f = λ i. record { key = k; head = e i; position = p; place = record { spn = spn; start = (f i).start } }

-- the start at a position of a held map; where nothing stands there, both are 0
start_there_lem : (width_of : ℕ → ℕ) (m : Map) (p : ℕ) → is_held m ≡ true → (stands_by width_of m p).start ≡ start_in (params_of width_of m p)
unfolding stands_by
start_there_lem width_of m p h = rw h (go (params_of width_of m p))
  where
    go : (x : Option Param) → (cond (is_none x) (nowhere (plain 18)) (standing x)).start ≡ start_in x
    go none = refl
    go (some y) = refl

-- of a key that answers, the message as its row has it is what is told of its map
pub message-is : (width_of : ℕ → ℕ) (t : List ℕ) (own spn : ℕ) (k : Key) → tells width_of own spn k (map_in t k) ≡ true
    → message_at width_of t spn k (position_of width_of (map_in t k) spn) ≡ placement width_of spn k (map_in t k)
unfolding placement
message-is width_of t own spn k e =
    let m = map_in t k in
    let u = (tells-three width_of own spn k m e).1 in
    let h = head-is width_of t k u in
    let s = start_there_lem width_of m (position_of width_of m spn) (usable-held width_of m u) in
    λ i. record { key = k; head = h i; position = position_of width_of m spn; place = record { spn = spn; start = s i } }
