-- Fresh words: every counter is 0, and no frame waits. Assumes nothing.
use Prim.Native.Nat.{ℕ, ◌+◌, ◌*◌, ◌≤◌, ◌<◌}
use native.Mathlib.Omega.{arith}
use mathlib.Core.Path.{◌≡◌, ◌∙◌}
use mathlib.Core.List.{[]}
use lib.ListN.{get_or, replicate, length-replicate}
use Rattle.words.specs.Rows.{row_at}
use Rattle.words.proofs.Rows.{row_at_get_d, zeros}
use Rattle.counters.specs.Words.{no_counters, counters_at}
use Rattle.counters.proofs.Rows.{read_at_lem}
use Rattle.queue.specs.Row.{waiting_at}
use Rattle.queue.proofs.Words.{count-is, none_waits}
use Rattle.queue.proofs.Rows.{waiting-is}

-- a word of a row of words that are all 0
module _ (n w i k : ℕ) (h : i * w + w ≤ n) (l : k < w) where
  zero_word : get_or (row_at w (replicate n 0) i) k 0 ≡ 0
  zero_word = row_at_get_d w (replicate n 0) i (rw (length-replicate {A = ℕ} n 0) h) k l ∙ zeros n (i * w + k)

pub fresh-counters : (i : ℕ) → i < 12 → counters_at (replicate 72 0) i ≡ no_counters
fresh-counters i h =
    let r = row_at 6 (replicate 72 0) i in
    let z : (k : ℕ) → k < 6 → get_or r k 0 ≡ 0 = λ k l. zero_word 72 6 i k (omega arith) l in
    let a = z 0 (omega arith) in
    let b = z 1 (omega arith) in
    let c = z 2 (omega arith) in
    let d = z 3 (omega arith) in
    let e = z 4 (omega arith) in
    let f = z 5 (omega arith) in
    read_at_lem (replicate 72 0) (length-replicate {A = ℕ} 72 0) i h ∙ λ j. record { arrived = a j; filtered = b j; queued = c j; sent = d j; turned = e j; refused = f j }

pub fresh_queue : (i : ℕ) → i < 4 → waiting_at (replicate 260 0) i ≡ []
fresh_queue i h =
    waiting-is (replicate 260 0) (length-replicate {A = ℕ} 260 0) i h
    ∙ none_waits (row_at 65 (replicate 260 0) i) (count-is (row_at 65 (replicate 260 0) i) 0 (zero_word 260 65 i 0 (omega arith) (omega arith)) (omega arith))
