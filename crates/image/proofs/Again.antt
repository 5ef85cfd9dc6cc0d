-- THE LAW OF THE IMAGE, over histories that calls can bring: reading what was written gives every saved key its map and no other key anything; so bytes are
-- undamaged exactly where they are the image of such a table. (Room demands has it over runs of calls.) Assumes nothing.
use Prim.Native.Nat.{ℕ, zero, suc, ◌+◌, ◌*◌, ◌≤◌, ◌<◌}
use native.Mathlib.Omega.{arith}
use mathlib.Core.Path.{◌≡◌, refl, sym, ap, ◌∙◌}
use mathlib.Core.Logic.{◌↔◌}
use mathlib.Core.Bool.{Bool, true, false, cond, true≢false, and-eq-true_iff, or-true}
use mathlib.Core.Option.{Option, none, some}
use mathlib.Core.List.{List, [], ◌∷◌, ◌++◌}
use borrow.Author.Tests.{eqb-true}
use lib.Dec.{eqb}
use lib.ListN.{length, get_or}
use Rattle.words.specs.Runs.{only}
use Rattle.words.proofs.Tests.{test, never}
use Rattle.message.specs.declared.Key.{Key}
use Rattle.message.specs.declared.Place.{Place}
use Rattle.message.specs.declared.Message.{Message}
use Rattle.record.specs.Record.{Bytes}
use Rattle.record.proofs.Bytes.{byte_at}
use Rattle.dictionary.specs.Dictionary.{width_by}
use Rattle.maps.specs.Maps.{Map, Nothing, Conflict, Held, map_of, is_nothing, same_key}
use Rattle.maps.proofs.Tests.{key-refl, eqb_same}
use Rattle.judge.specs.Judge.{usable, is_none, with_width}
use Rattle.judge.proofs.Judged.{usable_sound}
use Rattle.history.specs.History.{most_keys, Event, Learn, Forget, Edition, is_empty, since, keys, counts, kept, edition_of, Few}
use Rattle.history.specs.Frames.{learns}
use Rattle.history.proofs.Follows.{nothing_is}
use Rattle.history.proofs.Keys.{has}
use Rattle.keyrow.specs.Row.{InBytes}
use Rattle.lookup.specs.View.{map_in, edition_in}
use Rattle.lookup.proofs.KeyRow.{two_editions}
use Rattle.open.specs.Open.{width_for}
use Rattle.lookup.specs.Next.{held_keys}
use Rattle.learned.specs.Events.{words_by}
use Rattle.learned.proofs.Walk.{in_order_lem, listed-map, listed-bytes}
use Rattle.learned.proofs.Rising.{one_list}
use Rattle.learned.proofs.Editions.{edition-is}
use Rattle.learned.proofs.Theorem.{demand_map, demand_edition}
use Rattle.message.specs.Message.{heard}
use Rattle.written.specs.Written.{id_of, with_key}
use Rattle.taught.specs.Taught.{AllTaught, AllTeachable}
use Rattle.taught.proofs.Histories.{taught-append, frame-taught, taught_in_words}
use Rattle.image.specs.Write.{row_size, behind, image_from, is_saved, saved_keys, image_in, image_of}
use Rattle.image.specs.Read.{key_at, five_at, heard_at, body_events, count_at, row_events, row_count, form_of, told_by, edition_at, row_editions, events_of, same, good}
use Rattle.image.proofs.Parse.{said_by_all, key_messages, Told, AllTold, Form, parsed, edited_all, parsed_editions}
use Rattle.image.proofs.Sayable.{SayableMap, map_sayable}
use Rattle.image.proofs.Members.{learn_all, said_all, learn_taught, WholeMap, said, from, says_map, says_nothing, all_teachable, few_listed, few}
use Rattle.image.proofs.Editions.{since-edited, few_edited, edition_given, edition-fresh}
use Rattle.image.proofs.Chosen.{only_all, saved_rising, saved_once, few_saved, saved_usable, saved_bytes, saved_something, image_same}

-- ---- any bytes stand for messages that frames can teach

pub key-bytes : (k : ℕ) (five : List ℕ) → Bytes five → (i : ℕ) → get_or (with_key k five) i 0 < 256
unfolding with_key
key-bytes k five u i = byte_at (with_key k five) i (omega arith, (omega arith, (omega arith, u)))

module _ (l : List ℕ) (b : Bytes l) where
  five_bytes : (p : ℕ) → Bytes (five_at l p)
  five_bytes p = (byte_at l p b, (byte_at l (p + 1) b, (byte_at l (p + 2) b, (byte_at l (p + 3) b, (byte_at l (p + 4) b, tt)))))

  body_taught : (k : Key) (n p : ℕ) (h : List Event) → AllTaught h → AllTaught (body_events l k p n h)
  unfolding body_events
  body_taught k zero p h u = u
  body_taught k (suc n) p h u =
      body_taught k n (p + 5) (heard_at l k p ++ h) (taught-append (heard_at l k p) h (frame-taught _ 8 (with_key k.k (five_at l p)) (key-bytes k.k (five_at l p) (five_bytes p))) u)

  rows-taught : (w n r p : ℕ) (h : List Event) → AllTaught h → AllTaught (row_events w l r p n h)
  unfolding row_events
  rows-taught w zero r p h u = u
  rows-taught w (suc n) r p h u =
      rows-taught w n (r + w) (p + 5 * count_at l p) (body_events l (key_at l r) p (count_at l p) h) (body_taught (key_at l r) (count_at l p) p h u)

  told-taught : AllTaught (told_by l)
  unfolding told_by
  told-taught = rows-taught (row_size (form_of l)) (row_count l) 2 (behind (form_of l) (row_count l)) [] tt

  -- and for editions of keys of bytes
  editions_taught : (n r : ℕ) (h : List Event) → AllTaught h → AllTaught (row_editions l r n h)
  unfolding row_editions
  editions_taught zero r h u = u
  editions_taught (suc n) r h u =
      editions_taught n (r + 8) (Edition (key_at l r) (edition_at l r) ∷ h) (record { source = byte_at l r b; destination = byte_at l (r + 1) b; number = byte_at l (r + 2) b }, u)

  pub events-taught : AllTaught (events_of l)
  unfolding events_of
  events-taught = test (eqb (form_of l) 1) (λ y. rw y told-taught) (λ n. rw n (editions_taught (row_count l) 2 (told_by l) told-taught))

-- ---- an image of form 1 says nothing of editions

-- a history of messages and forgets alone
abbrev pub Unedited : List Event → Type 0
Unedited [] = Unit {0}
Unedited (Learn m ∷ h) = Unedited h
Unedited (Forget k ∷ h) = Unedited h
Unedited (Edition k e ∷ h) = ⊥

module _ (l : List ℕ) where
  learns_unedited : (o : Option Message) (h : List Event) → Unedited h → Unedited (learns o ++ h)
  learns_unedited none h u = u
  learns_unedited (some m) h u = u

  body_unedited : (k : Key) (n p : ℕ) (h : List Event) → Unedited h → Unedited (body_events l k p n h)
  unfolding body_events
  body_unedited k zero p h u = u
  body_unedited k (suc n) p h u = body_unedited k n (p + 5) (heard_at l k p ++ h) (learns_unedited (heard (id_of k) 8 (with_key k.k (five_at l p))).message h u)

  rows_unedited : (w n r p : ℕ) (h : List Event) → Unedited h → Unedited (row_events w l r p n h)
  unfolding row_events
  rows_unedited w zero r p h u = u
  rows_unedited w (suc n) r p h u =
      rows_unedited w n (r + w) (p + 5 * count_at l p) (body_events l (key_at l r) p (count_at l p) h) (body_unedited (key_at l r) (count_at l p) p h u)

  pub old_unedited : form_of l ≡ 1 → Unedited (events_of l)
  unfolding events_of told_by
  old_unedited f = rw f (rows_unedited 7 (row_count l) 2 (behind 1 (row_count l)) [] tt)

-- so every key has 2010
kept_unedited : (h : List Event) → Unedited h → Unedited (kept h)
kept_unedited [] u = tt
kept_unedited (Learn m ∷ h) u = test (counts (kept h) (Learn m)) (λ t. rw t (kept_unedited h u)) (λ f. rw f (kept_unedited h u))
kept_unedited (Forget k ∷ h) u = test (counts (kept h) (Forget k)) (λ t. rw t (kept_unedited h u)) (λ f. rw f (kept_unedited h u))
kept_unedited (Edition k e ∷ h) u = absurd u

edition_unedited : (h : List Event) → Unedited h → (k : Key) → edition_of h k ≡ 2010
unfolding edition_of
edition_unedited [] u k = refl
edition_unedited (Learn m ∷ h) u k = edition_unedited h u k
edition_unedited (Forget j ∷ h) u k = test (same_key j k) (λ t. rw t) (λ f. rw f (edition_unedited h u k))
edition_unedited (Edition j e ∷ h) u k = absurd u

pub unedited_2010 : (h : List Event) → AllTaught h → Unedited h → (k : Key) → InBytes k → edition_in (words_by h) k ≡ 2010
unedited_2010 h ok u k b = edition-is h (taught_in_words h ok) k b ∙ edition_unedited (kept h) (kept_unedited h u) k

-- ---- the round trip

present : (width_of : ℕ → ℕ) (o : Option Place) → is_none (with_width width_of o) ≡ false → (x : Place) × (o ≡ some x)
present width_of none e = never refl e
present width_of (some x) e = (x, refl)

-- the keys that are given an edition: in form 1 none
abbrev pub given : ℕ → List Key → List Key
given form ks = cond (eqb form 1) [] ks

-- of a form, and of a history whose saved keys that form can tell: in form 1 they have 2010
module _ (form : ℕ) (is : Form form) (h : List Event) (ok : AllTaught h)
    (tells : eqb form 1 ≡ true → (k : Key) → has k (saved_keys (words_by h)) ≡ true → edition_in (words_by h) k ≡ 2010) where
  abbrev old : List ℕ
  old = words_by h

  abbrev ks : List Key
  ks = saved_keys old

  whole : (k : Key) → has k ks ≡ true → WholeMap (map_in old) k (map_in old k)
  whole k t = go (map_in old k) (saved_usable old k t) (map_sayable h ok k (saved_bytes old k t))
    where
      go : (M : Map) → usable (width_for old k) M ≡ true → SayableMap k M → WholeMap (map_in old) k M
      go Nothing u v = never u refl
      go Conflict u v = never u refl
      go (Held h places) u v = record { taught = v; present = there }
        where
          there : (p : ℕ) → 1 ≤ p → p ≤ h.n → (x : Place) × (places p ≡ some x)
          there zero a b = absurd (omega arith)
          there (suc i) a b = present (width_for old k) (places (suc i)) ((usable_sound (width_for old k) (Held h places) u).present i b)

  all_told : (js : List Key) → ((k : Key) → has k js ≡ true → has k ks ≡ true) → AllTold (map_in old) js
  all_told [] f = tt
  all_told (k ∷ js) f = (go (map_in old k) (whole k (f k (rw (key-refl k)))), all_told js (λ j t. f j (rw t (or-true (same_key k j)))))
    where
      go : (M : Map) → WholeMap (map_in old) k M → Told M
      go Nothing u = absurd u
      go Conflict u = absurd u
      go (Held h places) u = u.taught.count

  -- the messages of the saved maps
  abbrev pub ms : List Message
  ms = said (map_in old) ks

  teachable : AllTeachable ms
  teachable = all_teachable (map_in old) ks whole

  -- the image stands for these messages, and for the editions of its keys
  abbrev pub told : List Event
  told = edited_all (edition_in old) (given form ks) (learn_all ms)

  pub stands_for : events_of (image_in form old) ≡ told
  unfolding image_in image_from events_of edited_all
  stands_for = go (eqb form 1) refl
    where
      hears : said_by_all (key_messages (map_in old) ks []) ≡ learn_all ms
      hears = said_all ms teachable

      go : (b : Bool) → eqb form 1 ≡ b → events_of (image_from form (edition_in old) (map_in old) ks) ≡ edited_all (edition_in old) (cond b [] ks) (learn_all ms)
      go true y = rw (eqb-true form 1 y) (parsed 1 (edition_in old) (map_in old) refl ks (all_told ks (λ k t. t)) ∙ hears)
      go false n =
          rw two (parsed_editions (edition_in old) (λ k. (two_editions old k).1) (map_in old) ks (all_told ks (λ k t. t)) ∙ ap (edited_all (edition_in old) ks) hears)
        where
          two : form ≡ 2
          two = sym (rw n at is)

  -- which name at most 16 keys
  pub few_messages : Few (learn_all ms)
  few_messages = few ms ks (saved_once old) (few_saved old) (λ m i. (from (map_in old) ks m i).0)

  keys_few : length (keys (learn_all ms)) ≤ most_keys
  keys_few = omega (arith, few_saved old, few_listed ms ks (saved_once old) (λ m i. (from (map_in old) ks m i).0))

  pub few_keys : Few told
  few_keys = few_edited (edition_in old) (given form ks) (learn_all ms) keys_few few_messages

  pub told-taught_all : AllTaught told
  unfolding edited_all
  told-taught_all = edited-taught (given form ks) (learn_all ms) (λ k t. saved_bytes old k (in-given k t)) (learn_taught ms teachable)
    where
      in-given : (k : Key) → has k (given form ks) ≡ true → has k ks ≡ true
      in-given k = go (eqb form 1)
        where
          go : (b : Bool) → has k (cond b [] ks) ≡ true → has k ks ≡ true
          go true t = never t refl
          go false t = t

      edited-taught : (js : List Key) (g : List Event) → ((k : Key) → has k js ≡ true → InBytes k) → AllTaught g → AllTaught (edited_all (edition_in old) js g)
      edited-taught [] g f u = u
      edited-taught (j ∷ js) g f u = edited-taught js (Edition j (edition_in old j) ∷ g) (λ k t. f k (rw t (or-true (same_key j k)))) (f j (rw (key-refl j)), u)

  abbrev new : List ℕ
  new = words_by told

  map-new : (k : Key) → InBytes k → map_in new k ≡ map_of (since (learn_all ms) k)
  map-new k b =
      demand_map told (taught_in_words told told-taught_all) few_keys k b
      ∙ ap map_of (since-edited (edition_in old) (given form ks) (learn_all ms) k)

  -- every saved key has its map again, and no other key has anything
  map_again : (k : Key) → has k ks ≡ true → map_in new k ≡ map_in old k
  map_again k t = map-new k (saved_bytes old k t) ∙ says_map (map_in old) ks k t (whole k t)

  map_none : (k : Key) → InBytes k → has k ks ≡ false → map_in new k ≡ Nothing
  map_none k b f = map-new k b ∙ says_nothing (map_in old) ks k f

  -- and its edition
  edition_again : (k : Key) → has k ks ≡ true → edition_in new k ≡ edition_in old k
  unfolding edited_all
  edition_again k t =
      demand_edition told (taught_in_words told told-taught_all) few_keys k (saved_bytes old k t) ∙ go (eqb form 1) refl
    where
      held : is_empty (since (learn_all ms) k) ≡ false
      held = sym (nothing_is (since (learn_all ms) k)) ∙ ap is_nothing (says_map (map_in old) ks k t (whole k t)) ∙ saved_something old k t

      go : (b : Bool) → eqb form 1 ≡ b → edition_of (edited_all (edition_in old) (cond b [] ks) (learn_all ms)) k ≡ edition_in old k
      go true y = edition-fresh ms k ∙ sym (tells y k t)
      go false n = edition_given (edition_in old) ks (saved_once old) (learn_all ms) k t held (two_editions old k).0

  keys_again : held_keys new ≡ ks
  keys_again = one_list (held_keys new) ks (in_order_lem new) (saved_rising old) one
    where
      one : (k : Key) → has k (held_keys new) ≡ has k ks
      one k =
          test (has k ks) (λ t. rw t (listed-map new k (saved_bytes old k t) ∙ rw (map_again k t, saved_something old k t)))
          (λ f. rw f (test (has k (held_keys new)) (λ e. never (sym (listed-map new k (listed-bytes new k e)) ∙ e) (rw (map_none k (listed-bytes new k e) f))) (λ n. n)))

  saved_again : saved_keys new ≡ ks
  saved_again =
      ap (only (is_saved new)) keys_again
      ∙ only_all (is_saved new) ks (λ k t. (λ i. usable (width_by (edition_again k t i)) (map_again k t i)) ∙ saved_usable old k t)

  image_new : image_in form new ≡ image_in form old
  unfolding image_in
  image_new =
      ap (image_from form (edition_in new) (map_in new)) saved_again ∙ image_same form (edition_in new) (edition_in old) (map_in new) (map_in old) ks edition_again map_again

  -- writing what was read gives what was written
  pub again : image_in form (words_by (events_of (image_in form old))) ≡ image_in form old
  again = ap (λ (x : List Event). image_in form (words_by x)) stands_for ∙ image_new

  -- "Reading a written image gives the same answers for every saved key": it has the same map and the same edition; and no other key has one
  pub same_maps : (k : Key) → has k ks ≡ true → map_in (words_by (events_of (image_in form old))) k ≡ map_in old k
  same_maps k t = ap (λ (x : List Event). map_in (words_by x) k) stands_for ∙ map_again k t

  pub same_editions : (k : Key) → has k ks ≡ true → edition_in (words_by (events_of (image_in form old))) k ≡ edition_in old k
  same_editions k t = ap (λ (x : List Event). edition_in (words_by x) k) stands_for ∙ edition_again k t

  pub no_more : (k : Key) → InBytes k → has k ks ≡ false → map_in (words_by (events_of (image_in form old))) k ≡ Nothing
  no_more k b f = ap (λ (x : List Event). map_in (words_by x) k) stands_for ∙ map_none k b f

-- ---- undamaged exactly where written

same_refl : (l : List ℕ) → same l l ≡ true
same_refl [] = refl
same_refl (x ∷ l) = rw (eqb_same x) (same_refl l)

pub same_eq : (a b : List ℕ) → same a b ≡ true → a ≡ b
same_eq [] [] e = refl
same_eq [] (y ∷ b) e = never e refl
same_eq (x ∷ a) [] e = never e refl
same_eq (x ∷ a) (y ∷ b) e =
    let (p, q) = (and-eq-true_iff (eqb x y) _).0 e in
    let u = eqb-true x y p in
    let v = same_eq a b q in
    λ i. u i ∷ v i

-- an undamaged image is that of the table that it stands for, in its own form
pub good-is : (l : List ℕ) → good l ≡ true → image_in (form_of l) (words_by (events_of l)) ≡ l
unfolding good
good-is l g = same_eq (image_in (form_of l) (words_by (events_of l))) l g

-- an image has the form that it was written in
pub form_in : (form : ℕ) → Form form → (t : List ℕ) → form_of (image_in form t) ≡ form
unfolding image_in image_from
form_in form is t = is

-- so no form but 1 and 2 is undamaged
pub form_good : (l : List ℕ) → good l ≡ true → get_or l 0 0 ≡ form_of l
unfolding image_in image_from
form_good l g = ap (λ (x : List ℕ). get_or x 0 0) (sym (good-is l g))

-- a written image is undamaged
module _ (form : ℕ) (is : Form form) (h : List Event) (ok : AllTaught h)
    (tells : eqb form 1 ≡ true → (k : Key) → has k (saved_keys (words_by h)) ≡ true → edition_in (words_by h) k ≡ 2010) where
  pub written_in : good (image_in form (words_by h)) ≡ true
  unfolding good
  written_in = rw (form_in form is (words_by h), again form is h ok tells) (same_refl (image_in form (words_by h)))

pub written-good : (h : List Event) → AllTaught h → good (image_of (words_by h)) ≡ true
written-good h ok = written_in 2 refl h ok (λ e. absurd (true≢false (sym e)))

-- what an undamaged image stands for, its own form can tell
pub can_tell : (l : List ℕ) → Bytes l → eqb (form_of l) 1 ≡ true → (k : Key) → has k (saved_keys (words_by (events_of l))) ≡ true → edition_in (words_by (events_of l)) k ≡ 2010
can_tell l b y k t =
    unedited_2010 (events_of l) (events-taught l b) (old_unedited l (eqb-true (form_of l) 1 y)) k (saved_bytes (words_by (events_of l)) k t)

-- "one table has one image, and any other bytes are damaged": of form 2
pub undamaged : (l : List ℕ) → Bytes l → form_of l ≡ 2 → (good l ≡ true) ↔ ((h : List Event) × AllTaught h × (image_of (words_by h) ≡ l))
undamaged l b f = (
  λ g. (events_of l, events-taught l b, ap (λ (x : ℕ). image_in x (words_by (events_of l))) (sym f) ∙ good-is l g),
  λ s. let (h, ok, e) = s in ap good (sym e) ∙ written-good h ok,
)

-- and of form 1, as before there were editions: the history is one of messages and forgets alone
pub undamaged_old : (l : List ℕ) → Bytes l → form_of l ≡ 1 → (good l ≡ true) ↔ ((h : List Event) × AllTaught h × Unedited h × (image_in 1 (words_by h) ≡ l))
undamaged_old l b f = (
  λ g. (events_of l, events-taught l b, old_unedited l f, ap (λ (x : ℕ). image_in x (words_by (events_of l))) (sym f) ∙ good-is l g),
  λ s. let (h, ok, u, e) = s in ap good (sym e) ∙ written_in 1 refl h ok (λ y k t. unedited_2010 h ok u k (saved_bytes (words_by h) k t)),
)
