-- After ANY run of calls on fresh filters, with any numbers, refused ones and decisions too, each call is answered as the calls that name its
-- pair, in their order, have it answered by a fresh pair; calls that name other pairs, and those before the pair's last renew, do not count.
-- Assumes nothing.
use mathlib.Core.Path.{◌≡◌, refl, sym, ap, ◌∙◌}
use mathlib.Core.Bool.{true, false, cond, and-eq-true_iff, true≢false}
use mathlib.Core.List.{List, [], ◌∷◌}
use Prim.Native.Nat.{ℕ, ◌+◌, ◌*◌, ◌<◌, ◌≤◌}
use native.Mathlib.Decide.{ℕ_discrete}
use native.Mathlib.Omega.{arith}
use borrow.Author.Tests.{ltb-true, eqb-true, eq-eqb, le-ltb, leb-true}
use lib.Dec.{eqb}
use lib.ListN.{length, get_or, length-replicate}
use Rattle.words.specs.Rows.{row_at, put_at}
use Rattle.words.specs.Runs.{only, fold, Keyed}
use Rattle.words.proofs.Tests.{test}
use Rattle.words.proofs.Rows.{length-row_at, row_at_get_d, zeros}
use Rattle.words.proofs.Runs.{own_events, kept_all, fold-up_to}
use Rattle.answers.specs.Answers.{plain}
use Rattle.pairs.specs.declared.Command.TheVariants.{Add, Delete, Renew}
use Rattle.pairs.specs.Pairs.{room, Pair, Counted, fresh_pair, answer_to, obeyed, step_pair}
use Rattle.pairs.specs.Row.{mode_in, count_in, entry_in, listed_in, pair_in, row_after, ListedOnce}
use Rattle.ports.specs.Filters.{two_ports, pair_of, fresh_words, pair_row, pair_at, commanded, decided}
use Rattle.commands.specs.Calls.{Ask, Order, Decide, PortCall, called_by, called, filters_after, answer_of, asked, names_pair, pair_after, renews_by, since_renew}
use Rattle.ports.proofs.Numbers.{number_fits}
use Rattle.ports.proofs.Calls.{all_fresh}
use Rattle.commands.proofs.Refusals.{row_long', put-long, own_row, other_row, others_stay}
use Rattle.commands.proofs.Lists.{same-pair, count_most, count-is, place-holds, listed_at, Tidy, row_steps}

-- ---- the words of every moment

-- twelve rows, in none of which a PGN is listed twice
pub record AllTidy (w : List ℕ) : Type 0 where
  pub long : length w ≡ 408
  pub rows : (i : ℕ) → i < 12 → Tidy (row_at 34 w i)

-- fresh words: each row is a fresh pair
fresh-long : length fresh_words ≡ 408
fresh-long = ap length (sym (all_fresh 408 refl)) ∙ length-replicate {A = ℕ} 408 0

module _ (i : ℕ) (h : i < 12) where
  fresh-word : (k : ℕ) → k < 34 → get_or (row_at 34 fresh_words i) k 0 ≡ 0
  fresh-word k l =
      row_at_get_d 34 fresh_words i (rw fresh-long (omega arith)) k l
      ∙ ap (λ (w : List ℕ). get_or w (i * 34 + k) 0) (sym (all_fresh 408 refl)) ∙ zeros 408 (i * 34 + k)

  fresh-count : count_in (row_at 34 fresh_words i) ≡ 0
  fresh-count = count-is (row_at 34 fresh_words i) 0 (fresh-word 1 (omega arith)) (omega arith)

  fresh-row : pair_in (row_at 34 fresh_words i) ≡ fresh_pair
  fresh-row =
      same-pair (rw (fresh-word 0 (omega arith))) (λ x. rw fresh-count (le-ltb (entry_in (row_at 34 fresh_words i) x) 0 (omega arith))) fresh-count

  fresh-once : ListedOnce (row_at 34 fresh_words i)
  unfolding ListedOnce
  fresh-once j k jl kl e = absurd (omega (arith, fresh-count))

fresh_tidy : AllTidy fresh_words
fresh_tidy = record {
  long = fresh-long;
  rows = λ i h. record { long = length-row_at 34 fresh_words i (rw fresh-long (omega arith)); once = fresh-once i h };
}

-- ---- one call

module _ (w : List ℕ) (s : AllTidy w) (f t : ℕ) where
  call_tidy : (a : Ask) → AllTidy (called_by w f t a).memory
  unfolding commanded
  call_tidy (Order c) = test (two_ports f t) (λ y. rw y (put_tidy (pair_of f t) (number_fits f t y))) (λ n. rw n s)
    where
      put_tidy : (i : ℕ) → i < 12 → AllTidy (put_at 34 w i (row_after (row_at 34 w i) c))
      put_tidy i h = record { long = put-long w s.long c i h; rows = λ j l. go j l (ℕ_discrete j i) }
        where
          go : (j : ℕ) → j < 12 → Dec (j ≡ i) → Tidy (row_at 34 (put_at 34 w i (row_after (row_at 34 w i) c)) j)
          go j l (yes e) =
              rw (e, own_row w s.long c i h)
              (record { long = row_long' w s.long c i h; once = (row_steps (row_at 34 w i) (s.rows i h) c).1 })
          go j l (no ne) = rw (other_row w s.long c i h j l ne) (s.rows j l)
  call_tidy (Decide id) = s

  -- the pair that a call names goes by the call
  call_own : (a : Ask) → two_ports f t ≡ true → pair_at (called_by w f t a).memory f t ≡ asked (pair_at w f t) a
  unfolding commanded
  call_own (Order c) y =
      let h = number_fits f t y in
      rw y (ap pair_in (own_row w s.long c (pair_of f t) h) ∙ (row_steps (pair_row w f t) (s.rows (pair_of f t) h) c).0)
  call_own (Decide id) y = refl

  -- and any other pair stays
  call_other : (a : Ask) (f' t' : ℕ) → two_ports f' t' ≡ true → ((f ≡ f') × (t ≡ t') → ⊥) → pair_at (called_by w f t a).memory f' t' ≡ pair_at w f' t'
  call_other (Order c) f' t' y' ne = ap pair_in (others_stay w s.long f t c f' t' y' ne)
  call_other (Decide id) f' t' y' ne = refl

  -- its answer is the pair's, or 15
  call_answer : (a : Ask) → (called_by w f t a).answer ≡ cond (two_ports f t) (answer_of (pair_at w f t) a) (plain 15)
  unfolding commanded decided
  call_answer (Order c) = test (two_ports f t) (λ y. rw y) (λ n. rw n)
  call_answer (Decide id) = refl

-- ---- any run

pub run_tidy : (h : List PortCall) → AllTidy (filters_after h)
run_tidy [] = fresh_tidy
run_tidy (c ∷ h) = call_tidy (filters_after h) (run_tidy h) c.from c.to c.ask

-- two different ports, each 1 to 4
record Ports : Type 0 where
  from : ℕ
  to : ℕ
  good : two_ports from to ≡ true

-- what the test of a name tells
named : (f t : ℕ) (c : PortCall) → names_pair f t c ≡ true → (c.from ≡ f) × (c.to ≡ t)
unfolding names_pair
named f t c e =
    let (p, q) = (and-eq-true_iff (eqb c.from f) (eqb c.to t)).0 e in
    (eqb-true c.from f p, eqb-true c.to t q)

unnamed : (f t : ℕ) (c : PortCall) → names_pair f t c ≡ false → (c.from ≡ f) × (c.to ≡ t) → ⊥
unfolding names_pair
unnamed f t c n (p, q) = true≢false (sym (rw (eq-eqb c.from f p, eq-eqb c.to t q)) ∙ n)

-- a call is a step of the pair that it names, and of no other
step : (c : PortCall) (h : List PortCall) (f t : ℕ) → two_ports f t ≡ true
    → pair_at (filters_after (c ∷ h)) f t ≡ cond (names_pair f t c) (asked (pair_at (filters_after h) f t) c.ask) (pair_at (filters_after h) f t)
step c h f t y =
    test (names_pair f t c)
    (λ e.
    let (p, q) = named f t c e in
    rw (e, p, q) (call_own (filters_after h) (run_tidy h) f t c.ask y))
    (λ n. rw n (call_other (filters_after h) (run_tidy h) c.from c.to c.ask f t y (unnamed f t c n)))

keyed : Keyed (λ (k : Ports) c. names_pair k.from k.to c) (λ h c. true) (λ p c. asked p c.ask) fresh_pair (λ h k. pair_at (filters_after h) k.from k.to)
keyed = record {
  fresh = λ k. fresh-row (pair_of k.from k.to) (number_fits k.from k.to k.good);
  next = λ c h k. step c h k.from k.to k.good;
}

-- the words mean, of each pair, what its own calls made of a fresh pair
pub pair_is : (h : List PortCall) (f t : ℕ) → two_ports f t ≡ true → pair_at (filters_after h) f t ≡ pair_after h f t
pair_is h f t y =
    own_events _ _ _ _ keyed h (record { from = f; to = t; good = y })
    ∙ ap (λ (l : List PortCall). fold (λ p c. asked p c.ask) fresh_pair (only (names_pair f t) l)) (kept_all _ (λ g c. refl) h)

-- THE THEOREM: the answer to any call after any run
pub answered : (h : List PortCall) (c : PortCall)
    → (called (filters_after h) c).answer ≡ cond (two_ports c.from c.to) (answer_of (pair_after h c.from c.to) c.ask) (plain 15)
answered h c =
    call_answer (filters_after h) (run_tidy h) c.from c.to c.ask
    ∙ test (two_ports c.from c.to) (λ y. rw (y, pair_is h c.from c.to y)) (λ n. rw n)

-- calls that name other pairs do not count: two runs with the same calls of the pair answer a call to it alike
pub isolated : (h g : List PortCall) (c : PortCall) → only (names_pair c.from c.to) h ≡ only (names_pair c.from c.to) g
    → (called (filters_after h) c).answer ≡ (called (filters_after g) c).answer
isolated h g c e = answered h c ∙ rw e (sym (answered g c))

-- Req 07: a renew makes the same of any pair
renew_forgets : (p q : Pair) (a : Ask) → renews_by a ≡ true → asked p a ≡ asked q a
unfolding step_pair answer_to obeyed
renew_forgets p q (Order (Renew m)) e = rw (le-ltb 1 m (leb-true m 1 e))
renew_forgets p q (Order (Add g)) e = absurd (true≢false (sym e))
renew_forgets p q (Order (Delete g)) e = absurd (true≢false (sym e))
renew_forgets p q (Decide id) e = absurd (true≢false (sym e))

-- the pair is what its calls since its last renew made of it, and nothing before counts
pub pair-since : (h : List PortCall) (f t : ℕ) → pair_after h f t ≡ fold (λ p c. asked p c.ask) fresh_pair (since_renew h f t)
pair-since h f t =
    fold-up_to (λ p c. asked p c.ask) fresh_pair (λ c. renews_by c.ask) (λ p q c e. renew_forgets p q c.ask e) (only (names_pair f t) h)

-- two runs with the same calls of the pair since its last renew answer a call to it alike
pub nothing_before : (h g : List PortCall) (c : PortCall) → since_renew h c.from c.to ≡ since_renew g c.from c.to
    → (called (filters_after h) c).answer ≡ (called (filters_after g) c).answer
nothing_before h g c e =
    answered h c ∙ rw (pair-since h c.from c.to, e, ← (pair-since g c.from c.to)) (sym (answered g c))

-- the count is that of the PGNs that are listed, each once, and at most 32
pub counted : (h : List PortCall) (f t : ℕ) → two_ports f t ≡ true → Counted (pair_after h f t)
unfolding ListedOnce
counted h f t y =
    let r = pair_row (filters_after h) f t in
    rw (← (pair_is h f t y))
    (record {
      at = λ k. get_or r (2 + k) 0;
      listed_at = λ k l. listed_at r (get_or r (2 + k) 0) k l refl;
      place = λ g e. let l = ltb-true (entry_in r g) (count_in r) e in (entry_in r g, l, place-holds r g l);
      once = ((run_tidy h).rows (pair_of f t) (number_fits f t y)).once;
    })

pub at_most : (h : List PortCall) (f t : ℕ) → two_ports f t ≡ true → (pair_after h f t).count ≤ room
at_most h f t y = rw (← (pair_is h f t y)) (count_most (pair_row (filters_after h) f t))

-- the order in which a list stands in memory says nothing: one mode, one set and one count, and every answer is the same
pub order_free : (r s : List ℕ) → mode_in r ≡ mode_in s → ((g : ℕ) → listed_in r g ≡ listed_in s g) → count_in r ≡ count_in s
    → (a : Ask) → answer_of (pair_in r) a ≡ answer_of (pair_in s) a
order_free r s m l n a = ap (λ (p : Pair). answer_of p a) (same-pair m l n)
