-- What the functions cite: each answer and the words after it, by the tests on the way. Assumes nothing.
use mathlib.Core.Path.{◌≡◌, refl, sym, ap, ◌∙◌}
use mathlib.Core.Bool.{Bool, true, false, cond, and-eq-true_iff}
use mathlib.Core.List.{List}
use Prim.Native.Nat.{ℕ, zero, suc, ◌-◌, ◌≤◌, ◌<◌}
use native.Mathlib.Omega.{arith}
use borrow.Author.Tests.{leb-true, le-leb, lt-ltb, le-ltb}
use lib.Dec.{leb, ltb}
use lib.ListN.{length, replicate}
use Rattle.words.specs.Rows.{row_at}
use Rattle.words.proofs.Tests.{test}
use Rattle.answers.specs.Answers.{Said, plain, done}
use Rattle.frame.specs.Frame.{greatest_identifier, fields_of, pgn_of}
use Rattle.frame.specs.declared.Fields.{Fields}
use Rattle.pairs.specs.Pairs.{decided_by}
use Rattle.pairs.specs.Row.{row_passes}
use Rattle.ports.specs.Filters.{two_ports, pair_of, decided}
use Rattle.ports.proofs.Numbers.{by_number}
use Rattle.counters.specs.declared.Counters.{Counters}
use Rattle.counters.specs.declared.Fate.{Fate}
use Rattle.counters.specs.declared.Fate.TheVariants.{Refused, Filtered, Turned, Queued, Sent}
use Rattle.counters.specs.Words.{counters_at, noted_at}
use Rattle.counters.proofs.Rows.{none_read}
use Rattle.queue.specs.Row.{word_of, from_in, id_in, how_many, Entered, entered, enters_at, gone, leaves_at, waiting_at}
use Rattle.bridge.specs.Bridge.{Bridge, bridge, fresh_bridge, is_port, first_other, second_other, third_other, other, To, NoPort, pair_from, answer_to, Met, met, met_by, passed_by, Replied, replied, counted_as, offered_to, refused_from, offers, last_offer, then_third, then_second, offered, slotted_as, sent_from, slotted, stands, standing}

-- ---- ports

pub port_is : (p : ℕ) → is_port p ≡ true → (1 ≤ p) × (p ≤ 4)
unfolding is_port
port_is p e =
    let (a, b) = (and-eq-true_iff (leb 1 p) (leb p 4)).0 e in
    (leb-true 1 p a, leb-true p 4 b)

-- as the code tests it
pub tested_port : (p : ℕ) → 1 ≤ p → p ≤ 4 → is_port p ≡ true
unfolding is_port
tested_port p h l = rw (le-leb 1 p h, le-leb p 4 l)

-- what holds of 1, 2, 3 and 4 holds of every port
pub each_port : (P : ℕ → Type 0) → P 1 → P 2 → P 3 → P 4 → (p : ℕ) → is_port p ≡ true → P p
each_port P a b c d p y = go p (port_is p y).0 (port_is p y).1
  where
    go : (p : ℕ) → 1 ≤ p → p ≤ 4 → P p
    go zero h l = absurd (omega (arith, h))
    go (suc zero) h l = a
    go (suc (suc zero)) h l = b
    go (suc (suc (suc zero))) h l = c
    go (suc (suc (suc (suc zero)))) h l = d
    go (suc (suc (suc (suc (suc p))))) h l = absurd (omega (arith, l))

-- two ports whose pair has a number
pub pair_two : (from to i : ℕ) → i ≡ pair_of from to → i < 12 → two_ports from to ≡ true
pair_two from to i e h = by_number from to ∙ ap (λ (n : ℕ). ltb n 12) (sym e) ∙ lt-ltb i 12 h

-- the numbers of the pairs with the three others
pub record PairsFrom (p : ℕ) : Type 0 where
  pub first-is : pair_from p 0 ≡ pair_of p (first_other p)
  pub second_is : pair_from p 1 ≡ pair_of p (second_other p)
  pub third-is : pair_from p 2 ≡ pair_of p (third_other p)
  pub first_at : other (p - 1) 0 ≡ first_other p - 1
  pub second_at : other (p - 1) 1 ≡ second_other p - 1
  pub third_at : other (p - 1) 2 ≡ third_other p - 1

pub pairs-from : (p : ℕ) → is_port p ≡ true → PairsFrom p
unfolding pair_of two_ports
pairs-from =
    each_port PairsFrom (record { first-is = refl; second_is = refl; third-is = refl; first_at = refl; second_at = refl; third_at = refl }) (record { first-is = refl; second_is = refl; third-is = refl; first_at = refl; second_at = refl; third_at = refl })
    (record { first-is = refl; second_is = refl; third-is = refl; first_at = refl; second_at = refl; third_at = refl }) (record { first-is = refl; second_is = refl; third-is = refl; first_at = refl; second_at = refl; third_at = refl })

pub number_fits : (p k : ℕ) → is_port p ≡ true → k < 3 → pair_from p k < 12
number_fits p k y h = let (a, b) = port_is p y in omega arith

-- ---- what becomes of a frame at one port

module _ (e : Entered) (q : List ℕ) (b : Bool) where
  pub is-filtered : b ≡ false → met Filtered q ≡ passed_by b e q
  unfolding passed_by
  is-filtered n = rw n

  -- it enters, or 64 wait
  is_passed : b ≡ true → (fits : Bool) (after : List ℕ) → entered fits after ≡ e → met (cond fits Queued Turned) after ≡ passed_by b e q
  unfolding passed_by
  is_passed y fits after o = rw y (ap (λ (x : Entered). met (cond x.fits Queued Turned) x.words) o)

  pub is-queued : b ≡ true → (fits : Bool) (after : List ℕ) → fits ≡ true → entered fits after ≡ e → met Queued after ≡ passed_by b e q
  is-queued y fits after t o = rw t at (is_passed y fits after o)

  pub is_turned : b ≡ true → (fits : Bool) (after : List ℕ) → fits ≡ false → entered fits after ≡ e → met Turned after ≡ passed_by b e q
  is_turned y fits after t o = rw t at (is_passed y fits after o)

  -- the same by the filter's answer
  by_answer : passed_by b e q ≡ met_by (done (cond b 1 0)) e q
  unfolding passed_by met_by
  by_answer = test b (λ y. rw y) (λ n. rw n)

-- counted at its pair
pub counted_is : (b : Bridge) (n : ℕ) (m : Fate) (after counters : List ℕ) (x : Met) → met m after ≡ x → counters ≡ noted_at b.counters n m → replied m (bridge counters after) ≡ counted_as b n x
counted_is b n m after counters x o c = rw c (ap (counted_as b n) o)

-- ---- a frame

-- offered to one port, by the number of its pair
module _ (b : Bridge) (w : List ℕ) (from to id n : ℕ) (e : n ≡ pair_of from to) (h : n < 12) where
  -- the filter's answer, its identifier being one
  answered : id ≤ greatest_identifier → done (cond (row_passes (row_at 34 w n) (pgn_of (fields_of id))) 1 0) ≡ decided w from to id
  unfolding decided decided_by
  answered l = rw (pair_two from to n e h, ← e, le-ltb greatest_identifier id l)

  pub offer_is : id ≤ greatest_identifier → (fs : Fields) (g word t : ℕ) → fs ≡ fields_of id → g ≡ pgn_of fs → word ≡ word_of from id → t ≡ to - 1
      → (o : Replied) → o ≡ counted_as b n (passed_by (row_passes (row_at 34 w n) g) (enters_at b.queues t word) b.queues) → o ≡ offered_to b w from to id
  unfolding offered_to
  offer_is l fs g word t p r u d o v =
      let q = b.queues in
      let at = enters_at q (to - 1) (word_of from id) in
      rw (← e) ((rw (u, d, r, p) at v) ∙ ap (counted_as b n) (by_answer at q (row_passes (row_at 34 w n) (pgn_of (fields_of id))) ∙ ap (λ (s : Said). met_by s at q) (answered l)))

  -- its identifier being none
  pub refusal_is : greatest_identifier < id → replied Refused (bridge (noted_at b.counters n Refused) b.queues) ≡ offered_to b w from to id
  unfolding offered_to met_by decided decided_by
  refusal_is l = rw (pair_two from to n e h, ← e, lt-ltb greatest_identifier id l)

-- to the three, one after another
module _ (b : Bridge) (w : List ℕ) (from id : ℕ) where
  pub offers_are : (x y z : Fate) (b₁ b₂ b₃ : Bridge) → is_port from ≡ true → replied x b₁ ≡ offered_to b w from (first_other from) id
      → replied y b₂ ≡ offered_to b₁ w from (second_other from) id → replied z b₃ ≡ offered_to b₂ w from (third_other from) id → offers (To x y z) b₃ ≡ offered b w from id
  unfolding offered
  offers_are x y z b₁ b₂ b₃ h u v s = rw h (ap (last_offer x y) s ∙ ap (then_third w from id x) v ∙ ap (then_second w from id) u)

  -- refused by all three, its identifier being none
  pub refusals_are : is_port from ≡ true → greatest_identifier < id → (counters : List ℕ) → counters ≡ refused_from b.counters from
      → offers (To Refused Refused Refused) (bridge counters b.queues) ≡ offered b w from id
  refusals_are h l counters c =
      let n = pairs-from from h in
      rw c
      (offers_are _ _ _ _ _ _ h (refusal_is b w from (first_other from) id (pair_from from 0) n.first-is (number_fits from 0 h (omega arith)) l)
      (refusal_is _ w from (second_other from) id (pair_from from 1) n.second_is (number_fits from 1 h (omega arith)) l)
      (refusal_is _ w from (third_other from) id (pair_from from 2) n.third-is (number_fits from 2 h (omega arith)) l))

  -- no port
  pub offers_none : is_port from ≡ false → offers NoPort b ≡ offered b w from id
  unfolding offered
  offers_none h = rw h

-- ---- a slot

module _ (b : Bridge) (port f i : ℕ) where
  pub slot-sent : is_port port ≡ true → (word : ℕ) (after counters : List ℕ) (source pair id : ℕ) (a : Said) → gone true word after ≡ leaves_at b.queues (port - 1)
      → source ≡ from_in word → pair ≡ pair_of source port → counters ≡ noted_at b.counters pair Sent → id ≡ id_in word → a ≡ answer_to Sent
      → slotted_as a (bridge counters after) source id ≡ slotted b port f i
  unfolding slotted
  slot-sent h word after counters source pair id a o s p c n e = rw (h, e, c, p, n, s) (ap (sent_from b port f i) o)

  pub slot_none : is_port port ≡ true → (after : List ℕ) (a : Said) → gone false 0 after ≡ leaves_at b.queues (port - 1) → a ≡ plain 0
      → slotted_as a (bridge b.counters after) f i ≡ slotted b port f i
  unfolding slotted
  slot_none h after a o e = rw (h, e) (ap (sent_from b port f i) o)

  pub slot_15 : is_port port ≡ false → (a : Said) → a ≡ plain 15 → slotted_as a b f i ≡ slotted b port f i
  unfolding slotted
  slot_15 h a e = rw (h, e)

-- ---- what stands

module _ (b : Bridge) (from to : ℕ) (i : ℕ) (e : i ≡ pair_of from to) where
  pub pair-stands : i < 12 → (a : Said) (k : Counters) (n : ℕ) → a ≡ plain 0 → k ≡ counters_at b.counters i → n ≡ how_many from (waiting_at b.queues (to - 1)) → stands a k n ≡ standing b from to
  unfolding standing
  pair-stands h a k n p q r = rw (pair_two from to i e h, p, q, r, e)

  pub pair_15 : 12 ≤ i → length b.counters ≡ 72 → (a : Said) (k : Counters) → a ≡ plain 15 → k ≡ counters_at b.counters i → stands a k 0 ≡ standing b from to
  unfolding standing
  pair_15 h long a k p q =
      let no : two_ports from to ≡ false = by_number from to ∙ ap (λ (n : ℕ). ltb n 12) (sym e) ∙ le-ltb i 12 h in
      rw (no, p, q) (ap (λ (c : Counters). stands (plain 15) c 0) (sym (none_read b.counters i (rw long (omega arith)))))

-- ---- fresh words

pub all_fresh : (c q c' q' : List ℕ) → c' ≡ replicate (length c) 0 → q' ≡ replicate (length q) 0 → length c ≡ 72 → length q ≡ 260 → bridge c' q' ≡ fresh_bridge
unfolding fresh_bridge
all_fresh c q c' q' e f l m = rw (e, f, l, m)
