-- The packet of the holder of row i: what the code does in each of the three cases is what the definition says. Assumes nothing.
use Prim.Native.Nat.{ℕ, ◌+◌, ◌-◌, ◌*◌, ◌%◌, ◌^◌, ◌≤◌, ◌<◌}
use native.Mathlib.Omega.{arith}
use mathlib.Core.Path.{◌≡◌, sym, ap, ◌∙◌}
use mathlib.Core.Bool.{Bool, true, false}
use mathlib.Core.List.{List, ◌++◌}
use lib.Dec.{lit<}
use lib.ListN.{length, take, drop, get_or, set}
use Rattle.words.specs.Rows.{row_at, put_at}
use Rattle.words.proofs.Rows.{row_at-put_at, put_at-same, set_in_row}
use Rattle.answers.specs.Answers.{Said, plain, done}
use Rattle.splice.specs.Splice.{splice}
use Rattle.splice.proofs.Laws.{length-splice}
use Rattle.session.specs.Session.{is_next, is_last}
use Rattle.session.specs.Cut.{number_of, seven_of}
use Rattle.session.proofs.Steps.{next-is, last-is}
use Rattle.session.proofs.Seven.{seven_long}
use Rattle.transport.specs.Rows.{Memory, memory, next_word, size_word}
use Rattle.transport.specs.Calls.{received, takes_at}
use Rattle.transport.proofs.Words.{head-word, bytes-long, laid_front}

-- a packet in sequence has its place in a row
pub seven_room : (next n : ℕ) → is_next next n ≡ true → (0 < n) × (7 * (n - 1) + 7 ≤ 1785)
seven_room next n e = let (s, (p, m)) = next-is next n e in (p, omega arith)

-- a payload that is handed out has room in a row
pub size_room : (next size n : ℕ) → is_next next n ≡ true → is_last size n ≡ true → size ≤ 1785
size_room next size n e l = let (s, (p, m)) = next-is next n e in omega (arith, last-is size n l)

module _ (m : Memory) (long : length m.heads ≡ 32) (wide : length m.bytes ≡ 14280) (out : List ℕ) (i : ℕ) (h : i < 8) (d : List ℕ) where
  abbrev words : List ℕ
  words = row_at 4 m.heads i

  abbrev bytes : List ℕ
  bytes = row_at 1785 m.bytes i

  module _ (next : Bool) (told : next ≡ is_next (get_or m.heads (i * 4 + 1) 0) (number_of d)) where
    in_row : next ≡ is_next (next_word words) (number_of d)
    in_row = told ∙ ap (λ (w : ℕ). is_next w (number_of d)) (head-word m.heads long i h 1 (lit< tt))

    -- out of sequence
    pub at_29 : next ≡ false → (a : Said) (p : ℕ) → a ≡ plain 29 → p ≡ 0 → received a p (memory (set m.heads (i * 4 + 0) 0) m.bytes) out ≡ takes_at m out i d
    unfolding takes_at
    at_29 f a p e z =
        let off : is_next (next_word words) (number_of d) ≡ false = sym in_row ∙ f in
        let freed = set_in_row 4 m.heads i 0 0 (lit< tt) in
        let same = sym (put_at-same 1785 m.bytes i (omega arith)) in
        rw off (λ j. received (e j) (z j) (memory (freed j) (same j)) out)

    module _ (y : next ≡ true) where
      in_turn : is_next (next_word words) (number_of d) ≡ true
      in_turn = sym in_row ∙ y

      -- in sequence: the seven bytes were laid; by the size it is the last, or not
      module _ (later : List ℕ) (laid : later ≡ put_at 1785 m.bytes i (splice bytes (7 * (number_of d - 1)) (seven_of d)))
          (last : Bool) (all : last ≡ is_last (get_or m.heads (i * 4 + 2) 0) (number_of d)) where
        size_is : get_or m.heads (i * 4 + 2) 0 ≡ size_word words
        size_is = head-word m.heads long i h 2 (lit< tt)

        all_row : last ≡ is_last (size_word words) (number_of d)
        all_row = all ∙ ap (λ (w : ℕ). is_last w (number_of d)) size_is

        pub at_more : last ≡ false → (a : Said) (p : ℕ) → a ≡ plain 0 → p ≡ 0
            → received a p (memory (set m.heads (i * 4 + 1) (number_of d + 1)) later) out ≡ takes_at m out i d
        unfolding takes_at
        at_more f a p e z =
            let part : is_last (size_word words) (number_of d) ≡ false = sym all_row ∙ f in
            let one = set_in_row 4 m.heads i 1 (number_of d + 1) (lit< tt) in
            rw (in_turn, part) (λ j. received (e j) (z j) (memory (one j) (laid j)) out)

        -- the bytes of the row once the seven are laid
        room : 7 * (number_of d - 1) + length (seven_of d) ≤ length bytes
        room =
            let r = seven_room (next_word words) (number_of d) in_turn in
            omega (arith, r.1, bytes-long m.bytes wide i h, seven_long 0 (drop 1 d))

        row_laid : row_at 1785 later i ≡ splice bytes (7 * (number_of d - 1)) (seven_of d)
        row_laid =
            ap (λ (t : List ℕ). row_at 1785 t i) laid
            ∙ row_at-put_at 1785 m.bytes i (omega arith) (splice bytes (7 * (number_of d - 1)) (seven_of d))
            (length-splice bytes (7 * (number_of d - 1)) (seven_of d) room ∙ bytes-long m.bytes wide i h)

        -- the payload: what came before, and these seven, as far as the size goes
        payload-is : is_last (size_word words) (number_of d) ≡ true
            → take (get_or m.heads (i * 4 + 2) 0) (row_at 1785 later i) ≡ take (size_word words) (take (7 * (next_word words - 1)) bytes ++ seven_of d)
        payload-is l =
            let (s, (p, q)) = next-is (next_word words) (number_of d) in_turn in
            ap (λ (k : ℕ). take k (row_at 1785 later i)) size_is
            ∙ ap (take (size_word words)) row_laid
            ∙ laid_front bytes (seven_of d) (7 * (number_of d - 1)) (size_word words) room
            (omega (arith, last-is (size_word words) (number_of d) l, p, seven_long 0 (drop 1 d)))
            ∙ ap (λ (k : ℕ). take (size_word words) (take (7 * (k - 1)) bytes ++ seven_of d)) (sym s)

        pub at_last : last ≡ true → (o : List ℕ) → o ≡ splice out 0 (take (get_or m.heads (i * 4 + 2) 0) (row_at 1785 later i))
            → (a : Said) (p : ℕ) → a ≡ done (get_or m.heads (i * 4 + 2) 0) → p ≡ get_or m.heads (i * 4 + 3) 0 % 2 ^ 24
            → received a p (memory (set m.heads (i * 4 + 0) 0) later) o ≡ takes_at m out i d
        unfolding takes_at
        at_last t o given a p e z =
            let whole : is_last (size_word words) (number_of d) ≡ true = sym all_row ∙ t in
            let freed = set_in_row 4 m.heads i 0 0 (lit< tt) in
            let size = e ∙ ap done size_is in
            let pgn = z ∙ ap (λ (w : ℕ). w % 2 ^ 24) (head-word m.heads long i h 3 (lit< tt)) in
            let payload = given ∙ ap (λ (x : List ℕ). splice out 0 x) (payload-is whole) in
            rw (in_turn, whole) (λ j. received (size j) (pgn j) (memory (freed j) (laid j)) (payload j))
