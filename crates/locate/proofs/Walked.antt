-- The messages of a walk of the held keys, key by key, and a list of messages laid. Assumes nothing.
use Prim.Native.Nat.{ℕ, suc, ◌+◌, ◌<◌}
use native.Mathlib.Omega.{arith}
use mathlib.Core.Path.{◌≡◌, refl, sym, ap}
use mathlib.Core.Bool.{true, false}
use mathlib.Core.List.{List, [], ◌∷◌}
use lib.ListN.{get_or, length, drop}
use lib.Seq.{drop-cons}
use Rattle.std.proofs.lemmas.List.{drop_all}
use Rattle.words.proofs.Tests.{test}
use Rattle.text.specs.Text.{Page, put, put_all}
use Rattle.message.specs.declared.Key.{Key}
use Rattle.message.specs.declared.Message.{Message}
use Rattle.lookup.specs.View.{map_in}
use Rattle.ask.specs.Ask.{position_of}
use Rattle.written.specs.Written.{record_of}
use Rattle.locate.specs.Locate.{tells, placement, messages_of}
use Rattle.locate.specs.Parts.{position_told, message_at, pieces_of}
use Rattle.locate.proofs.Keys.{tells-three}
use Rattle.locate.proofs.Finding.{message-is}

-- ---- what a position says, that is 0 where the key does not answer

module _ (width_of : ℕ → ℕ) (own spn : ℕ) (k : Key) where
  pub silent : (t : List ℕ) → 0 ≡ position_told width_of own spn k (map_in t k) → tells width_of own spn k (map_in t k) ≡ false
  unfolding position_told
  silent t e =
      test (tells width_of own spn k (map_in t k))
      (λ y. let z : 0 ≡ position_of width_of (map_in t k) spn = rw y at e in absurd (omega (arith, z, (tells-three width_of own spn k (map_in t k) y).2)))
      (λ n. n)

  pub heard : (t : List ℕ) (p : ℕ) → p ≡ position_told width_of own spn k (map_in t k) → (p ≡ 0 → ⊥)
      → (tells width_of own spn k (map_in t k) ≡ true) × (p ≡ position_of width_of (map_in t k) spn)
  unfolding position_told
  heard t p e ne = test (tells width_of own spn k (map_in t k)) (λ y. (y, rw y at e)) (λ n. absurd (ne (rw n at e)))

-- ---- one key more

module _ (width_of : Key → ℕ → ℕ) (t : List ℕ) (own spn : ℕ) where
  abbrev pub all : List Key → List Message
  all ks = messages_of width_of (map_in t) own spn ks

module _ (width_of : Key → ℕ → ℕ) (t : List ℕ) (own spn : ℕ) (k : Key) (now later : List Key) (e : now ≡ k ∷ later) where
  pub answers : tells (width_of k) own spn k (map_in t k) ≡ true → (p : ℕ) → p ≡ position_of (width_of k) (map_in t k) spn → (m : Message) → m ≡ message_at (width_of k) t spn k p
      → all width_of t own spn now ≡ m ∷ all width_of t own spn later
  answers y p u m f =
      let g : m ≡ placement (width_of k) spn k (map_in t k) = rw (f, u) (message-is (width_of k) t own spn k y) in
      rw (e, y) (ap (λ (x : Message). x ∷ all width_of t own spn later) (sym g))

  pub passes : tells (width_of k) own spn k (map_in t k) ≡ false → all width_of t own spn now ≡ all width_of t own spn later
  passes n = rw (e, n) refl

-- ---- laying

module _ (ms : List Message) (i : ℕ) where
  pub lay_turn : (d : Message) → i < length ms → (q r : Page) → r ≡ put q.bytes q.at (record_of (get_or ms i d)) → put_all r (pieces_of (drop (suc i) ms)) ≡ put_all q (pieces_of (drop i ms))
  unfolding put_all
  lay_turn d h q r w = rw (drop-cons ms i d h, w)

  pub lay_end : length ms < i + 1 → (q : Page) → q ≡ put_all q (pieces_of (drop i ms))
  unfolding put_all
  lay_end h q = let none : drop i ms ≡ [] = drop_all i ms (omega arith) in rw none
