-- 02's Req 01, "Keep what the box learned", sentence by sentence, over any runs of calls (specs/Calls.antt; a load is one of them), and what Req 10 says of images. Assumes nothing: `Carried`,
-- `InBytes` and `Bytes` say only that bytes are bytes.
use Prim.Native.Nat.{ℕ, ◌≤◌}
use mathlib.Core.Path.{◌≡◌, refl, sym, ap, ◌∙◌}
use mathlib.Core.Logic.{◌↔◌}
use mathlib.Core.Bool.{Bool, true, false, cond, true≢false}
use mathlib.Core.Option.{Option, none, some}
use mathlib.Core.List.{List, [], ◌∷◌, ◌++◌}
use native.Mathlib.Omega.{arith}
use lib.Dec.{eqb, leb, ltb}
use lib.ListN.{length, get_or}
use Rattle.words.proofs.Tests.{test}
use Rattle.answers.specs.Answers.{Said, Outcome, outcome, plain}
use Rattle.answers.proofs.Tests.{one_of, from-answers, leaves}
use Rattle.splice.specs.Splice.{splice}
use Rattle.message.specs.declared.Key.{Key}
use Rattle.message.specs.declared.Message.{Message}
use Rattle.message.specs.Message.{heard}
use Rattle.record.specs.Record.{Bytes}
use Rattle.dictionary.specs.Dictionary.{width_by}
use Rattle.maps.specs.Maps.{Nothing}
use Rattle.judge.specs.Judge.{usable}
use Rattle.history.specs.History.{Event, Learn, Forget, Edition, is_empty, keys, kept}
use Rattle.history.specs.Frames.{learns}
use Rattle.history.proofs.Keys.{has}
use Rattle.keyrow.specs.Row.{InBytes}
use Rattle.lookup.specs.View.{map_in, edition_in}
use Rattle.lookup.specs.Next.{held_keys}
use Rattle.learned.specs.Events.{words_from, words_by}
use Rattle.written.specs.Written.{id_of, five_of, data_of}
use Rattle.written.proofs.Written.{heard_back}
use Rattle.open.specs.Open.{width_for}
use Rattle.image.specs.Write.{body_of, is_saved, saved_keys, image_in, image_of, save_tests, saved_into}
use Rattle.image.specs.Read.{row_count, form_of, events_of, good, load_tests, loaded}
use Rattle.image.specs.Part.{row_tests, row_asked, row_edition, row_body, row_with}
use Rattle.taught.specs.Taught.{AllTaught}
use Rattle.image.proofs.Chosen.{one_image, saved_when}
use Rattle.image.proofs.Lengths.{five_bytes, most-long, image_bytes}
use Rattle.image.proofs.Again as again
use Rattle.image.proofs.Empty as empty
use Rattle.image.proofs.Part as part
use Rattle.demands.specs.Calls.{Call, Frame, Forgets, Sets, Feeds, Empties, Loads, Reads, run, happened, AllCarried}
use Rattle.demands.specs.Known.{Known, known_in}
use Rattle.demands.proofs.Calls.{run_is}
use Rattle.demands.proofs.Located.{run-taught}
use Rattle.demands.proofs.Demands.{Answers, same-answers}

module _ (cs : List Call) (ok : AllCarried cs) where
  words : run cs ≡ words_by (happened cs)
  words = (run_is cs ok).0

-- ---- "one table has one image"

-- two tables with the same usable keys, and the same maps and editions of these, give the same bytes, whatever else they hold and in whatever order they learned it. On any words
pub same_image : (t u : List ℕ) → ((k : Key) → InBytes k → is_saved t k ≡ is_saved u k)
    → ((k : Key) → InBytes k → is_saved t k ≡ true → (map_in t k ≡ map_in u k) × (edition_in t k ≡ edition_in u k)) → image_of t ≡ image_of u
same_image = one_image 2

-- ---- "and any other bytes are damaged"

-- a run of frames, forgets and editions alone that has happened as a history tells
abbrev frames_of : List Event → List Call
frames_of [] = []
frames_of (Learn m ∷ h) = Frame (id_of m.key) 8 (data_of m) ∷ frames_of h
frames_of (Forget k ∷ h) = Forgets k ∷ frames_of h
frames_of (Edition k e ∷ h) = Sets k e ∷ frames_of h

frames_happened : (h : List Event) → AllTaught h → happened (frames_of h) ≡ h
unfolding happened
frames_happened [] u = refl
frames_happened (Learn m ∷ h) u = rw (heard_back m u.0, frames_happened h u.1)
frames_happened (Forget k ∷ h) u = ap (λ (x : List Event). Forget k ∷ x) (frames_happened h u.1)
frames_happened (Edition k e ∷ h) u = ap (λ (x : List Event). Edition k e ∷ x) (frames_happened h u.1)

frames_carried : (h : List Event) → AllTaught h → AllCarried (frames_of h)
frames_carried [] u = tt
frames_carried (Learn m ∷ h) u = (again.key-bytes m.key.k (five_of m.head m.position m.place) (five_bytes m.head m.position m.place), frames_carried h u.1)
frames_carried (Forget k ∷ h) u = (u.0, frames_carried h u.1)
frames_carried (Edition k e ∷ h) u = (u.0, frames_carried h u.1)

-- frames, forgets and editions, and no call beside
abbrev pub Plain : Call → Type 0
Plain (Frame id len d) = Unit {0}
Plain (Forgets k) = Unit {0}
Plain (Sets k e) = Unit {0}
Plain (Feeds s chunk) = ⊥
Plain Empties = ⊥
Plain (Loads l) = ⊥
Plain Reads = ⊥

abbrev pub AllPlain : List Call → Type 0
AllPlain [] = Unit {0}
AllPlain (c ∷ cs) = Plain c × AllPlain cs

frames_plain : (h : List Event) → AllPlain (frames_of h)
frames_plain [] = tt
frames_plain (Learn m ∷ h) = (tt, frames_plain h)
frames_plain (Forget k ∷ h) = (tt, frames_plain h)
frames_plain (Edition k e ∷ h) = (tt, frames_plain h)

-- an undamaged image is that of a table that frames, forgets and editions alone make, in its own form, so that no load bears witness to itself
pub by_frames : (l : List ℕ) → Bytes l → good l ≡ true → (cs : List Call) × AllCarried cs × AllPlain cs × (image_in (form_of l) (run cs) ≡ l)
by_frames l b g =
    let h = events_of l in
    let u = again.events-taught l b in
    (frames_of h, frames_carried h u, frames_plain h, ap (image_in (form_of l)) (words (frames_of h) (frames_carried h u) ∙ ap words_by (frames_happened h u)) ∙ again.good-is l g)

-- an image of form 2 is undamaged exactly where it is the image of a table that some run of calls reaches from the empty one
pub undamaged : (l : List ℕ) → Bytes l → form_of l ≡ 2 → (good l ≡ true) ↔ ((cs : List Call) × AllCarried cs × (image_of (run cs) ≡ l))
undamaged l b f = (
  λ g. let (cs, ok, p, e) = by_frames l b g in (cs, ok, ap (λ (x : ℕ). image_in x (run cs)) (sym f) ∙ e),
  λ s. let (cs, ok, e) = s in (again.undamaged l b f).1 (happened cs, run-taught cs ok, ap image_of (sym (words cs ok)) ∙ e),
)

-- ---- "old ones, no longer written, are read as 2010"

-- frames and forgets alone, as there were before there were editions
abbrev pub Old : Call → Type 0
Old (Frame id len d) = Unit {0}
Old (Forgets k) = Unit {0}
Old (Sets k e) = ⊥
Old (Feeds s chunk) = ⊥
Old Empties = ⊥
Old (Loads l) = ⊥
Old Reads = ⊥

abbrev pub AllOld : List Call → Type 0
AllOld [] = Unit {0}
AllOld (c ∷ cs) = Old c × AllOld cs

frames_old : (h : List Event) → again.Unedited h → AllOld (frames_of h)
frames_old [] u = tt
frames_old (Learn m ∷ h) u = (tt, frames_old h u)
frames_old (Forget k ∷ h) u = (tt, frames_old h u)
frames_old (Edition k e ∷ h) u = absurd u

old_unedited : (cs : List Call) → AllOld cs → again.Unedited (happened cs)
unfolding happened
old_unedited [] u = tt
old_unedited (Frame id len d ∷ cs) u = learned (heard id len d).message (old_unedited cs u.1)
  where
    learned : (o : Option Message) → again.Unedited (happened cs) → again.Unedited (learns o ++ happened cs)
    learned none rest = rest
    learned (some m) rest = rest
old_unedited (Forgets k ∷ cs) u = old_unedited cs u.1
old_unedited (Sets k e ∷ cs) u = absurd u.0
old_unedited (Feeds s chunk ∷ cs) u = absurd u.0
old_unedited (Empties ∷ cs) u = absurd u.0
old_unedited (Loads l ∷ cs) u = absurd u.0
old_unedited (Reads ∷ cs) u = absurd u.0

-- an image of form 1 is undamaged exactly where it was one under Req 01: where it is that of a table that frames and forgets make
pub undamaged_old : (l : List ℕ) → Bytes l → form_of l ≡ 1 → (good l ≡ true) ↔ ((cs : List Call) × AllCarried cs × AllOld cs × (image_in 1 (run cs) ≡ l))
undamaged_old l b f = (
  λ g. let (h, u, o, e) = (again.undamaged_old l b f).0 g in
      (frames_of h, frames_carried h u, frames_old h o, ap (image_in 1) (words (frames_of h) (frames_carried h u) ∙ ap words_by (frames_happened h u)) ∙ e),
  λ s. let (cs, ok, o, e) = s in (again.undamaged_old l b f).1 (happened cs, run-taught cs ok, old_unedited cs o, ap (image_in 1) (sym (words cs ok)) ∙ e),
)

-- what it stands for has 2010, whatever its bytes are
pub old_2010 : (l : List ℕ) → Bytes l → form_of l ≡ 1 → (k : Key) → InBytes k → edition_in (words_by (events_of l)) k ≡ 2010
old_2010 l b f k c = again.unedited_2010 (events_of l) (again.events-taught l b) (again.old_unedited l f) k c

-- and any byte 0 but 1 and 2 is damage
pub two_forms : (l : List ℕ) → good l ≡ true → get_or l 0 0 ≡ form_of l
two_forms = again.form_good

-- a written image is undamaged
pub written-good : (cs : List Call) → AllCarried cs → good (image_of (run cs)) ≡ true
written-good cs ok = (undamaged (image_of (run cs)) (image_bytes 2 (omega arith) (run cs)) (again.form_in 2 refl (run cs))).1 (cs, ok, refl)

-- so 21 is given exactly to bytes that are no reachable table's image in form 2, and in form 1 no table's that frames and forgets make
pub twenty_one : (t l : List ℕ) → Bytes l → ((loaded t l).answer ≡ plain 21)
    ↔ (((cs : List Call) → AllCarried cs → image_of (run cs) ≡ l → ⊥) × ((cs : List Call) → AllCarried cs → AllOld cs → image_in 1 (run cs) ≡ l → ⊥))
unfolding loaded
twenty_one t l b = (
  λ e. (
    λ cs ok q. not_21 (ap good (sym q) ∙ written-good cs ok) e,
    λ cs ok o q. not_21 ((undamaged_old l b (ap form_of (sym q) ∙ again.form_in 1 refl (run cs))).1 (cs, ok, o, q)) e,
  ),
  λ n. test (good l)
      (λ g. test (eqb (get_or l 0 0) 1)
      (λ y. let (cs, ok, o, q) = (undamaged_old l b (rw y)).0 g in absurd (n.1 cs ok o q))
      (λ z. let (cs, ok, q) = (undamaged l b (rw z)).0 g in absurd (n.0 cs ok q)))
      (λ f. rw f),
)
  where
    not_21 : good l ≡ true → (loaded t l).answer ≡ plain 21 → ⊥
    not_21 g e =
        test (is_empty (held_keys t))
        (λ y. let z : ◌≡◌ {A = ℕ} 0 21 = ap (λ (s : Said). s.number) (rw (g, y) at e) in omega (arith, z))
        (λ z. let w : ◌≡◌ {A = ℕ} 23 21 = ap (λ (s : Said). s.number) (rw (g, z) at e) in omega (arith, w))

-- a written image is never longer than this
pub image_most : (cs : List Call) → AllCarried cs → length (image_of (run cs)) ≤ 2610
image_most cs ok = rw (words cs ok) (most-long 2 (happened cs) (run-taught cs ok))

-- ---- "A swapped box must start where the old one stopped", "Reading a written image gives the same answers for every saved key"

-- form 2 can tell every table
every : (h : List Event) → eqb 2 1 ≡ true → (k : Key) → has k (saved_keys (words_by h)) ≡ true → edition_in (words_by h) k ≡ 2010
every h e = absurd (true≢false (sym e))

-- what an image says of a key of the table that it was written from: its map and its edition where the key is saved, and else nothing
module _ (cs : List Call) (ok : AllCarried cs) (k : Key) (b : InBytes k) where
  abbrev back : List ℕ
  back = words_by (events_of (image_of (run cs)))

  is_saved_lem : has k (saved_keys (words_by (happened cs))) ≡ is_saved (run cs) k
  is_saved_lem = saved_when (words_by (happened cs)) k b ∙ ap (λ (t : List ℕ). is_saved t k) (sym (words cs ok))

  back_known : is_saved (run cs) k ≡ true → known_in back k ≡ known_in (run cs) k
  back_known u =
      let w = words cs ok in
      let h = happened cs in
      let t = run-taught cs ok in
      let m = is_saved_lem ∙ u in
      ap (λ (x : List ℕ). known_in (words_by (events_of (image_of x))) k) w
      ∙ (λ i. record { edition = again.same_editions 2 refl h t (every h) k m i; map = again.same_maps 2 refl h t (every h) k m i }) ∙ ap (λ (x : List ℕ). known_in x k) (sym w)

  back_none : is_saved (run cs) k ≡ false → map_in back k ≡ Nothing
  back_none u =
      ap (λ (x : List ℕ). map_in (words_by (events_of (image_of x))) k) (words cs ok) ∙ again.no_more 2 refl (happened cs) (run-taught cs ok) (every (happened cs)) k b (is_saved_lem ∙ u)

-- the old box ran `cs`; the new one ran `ds`, and no key is held there
module _ (cs ds : List Call) (ok : AllCarried cs) (okd : AllCarried ds) (none_held : is_empty (held_keys (run ds)) ≡ true) where
  abbrev new : List ℕ
  new = (loaded (run ds) (image_of (run cs))).memory

  as_fresh : (k : Key) → InBytes k → known_in new k ≡ known_in (words_by (events_of (image_of (run cs)))) k
  as_fresh k b =
      let (w, i) = run_is ds okd in
      let e = sym (ap (λ (t : List ℕ). is_empty (held_keys t)) w) ∙ none_held in
      let l = image_of (run cs) in
      let c = image_bytes 2 (omega arith) (run cs) in
      let g = written-good cs ok in
      ap (λ (t : List ℕ). known_in (loaded t l).memory k) w
      ∙ (λ j. record { edition = empty.edition_into_empty (happened ds) i e l c g k b j; map = empty.into_empty (happened ds) i e l c g k b j })

  -- every saved key, that is every key whose map is usable by its edition, has its map and its edition again
  pub swapped : (k : Key) → InBytes k → is_saved (run cs) k ≡ true → known_in new k ≡ known_in (run cs) k
  swapped k b u = as_fresh k b ∙ back_known cs ok k b u

  -- so judge, count, pack, read and find answer as before
  pub swapped_answers : (k : Key) → InBytes k → is_saved (run cs) k ≡ true → Answers (known_in new k) (known_in (run cs) k)
  swapped_answers k b u = same-answers (known_in new k) (known_in (run cs) k) (swapped k b u)

  -- and no other key is held
  pub swapped_none : (k : Key) → InBytes k → is_saved (run cs) k ≡ false → map_in new k ≡ Nothing
  swapped_none k b u = ap (λ (x : Known). x.map) (as_fresh k b) ∙ back_none cs ok k b u

  -- ---- "Loading goes into an empty table and counts there as the messages it stands for"

  -- it is done, and all that it stands for counts: no message is answered 9
  pub load_counts : ((loaded (run ds) (image_of (run cs))).answer ≡ plain 0)
      × (happened (Loads (image_of (run cs)) ∷ ds) ≡ events_of (image_of (run cs)) ++ happened ds)
      × (kept (happened (Loads (image_of (run cs)) ∷ ds)) ≡ events_of (image_of (run cs)) ++ kept (happened ds))
  unfolding happened
  load_counts =
      let (w, i) = run_is ds okd in
      let l = image_of (run cs) in
      let c = image_bytes 2 (omega arith) (run cs) in
      let g = written-good cs ok in
      let e : is_empty (held_keys (words_by (happened ds))) ≡ true = sym (ap (λ (t : List ℕ). is_empty (held_keys t)) w) ∙ none_held in
      let f : is_empty (keys (kept (happened ds))) ≡ true = sym (empty.empty_when (happened ds) i) ∙ e in (
        ap (λ (t : List ℕ). (loaded t l).answer) w ∙ ap (λ (o : Outcome). o.answer) (empty.load_done (happened ds) i e l c g),
        rw (g, f),
        rw (g, f) (empty.kept_all (happened ds) i e l c g),
      )

-- ---- "asking for a key hands back that key's body": of a written image the body of the key's map, its edition and 0; of a key that is not usable nothing, and 22

module _ (cs : List Call) (ok : AllCarried cs) (k : Key) (b : InBytes k) where
  abbrev image : List ℕ
  image = image_of (run cs)

  bytes : Bytes image
  bytes = image_bytes 2 (omega arith) (run cs)

  found : has k (saved_keys (words_by (events_of image))) ≡ is_saved (run cs) k
  found =
      saved_when (words_by (events_of image)) k b
      ∙ test (is_saved (run cs) k)
      (λ y. ap (λ (x : Known). usable (width_by x.edition) x.map) (back_known cs ok k b y))
      (λ n. ap (usable (width_for (words_by (events_of image)) k)) (back_none cs ok k b n) ∙ sym n)

  pub asked-number : row_asked image (row_with image k) ≡ cond (is_saved (run cs) k) (plain 0) (plain 22)
  asked-number = part.asked_of image bytes (written-good cs ok) k ∙ ap (λ (x : Bool). cond x (plain 0) (plain 22)) found

  pub asked_body : row_body image (row_with image k) ≡ cond (is_saved (run cs) k) (body_of (map_in (run cs) k)) []
  asked_body =
      part.body_of_lem image bytes (written-good cs ok) k
      ∙ test (is_saved (run cs) k)
      (λ y. rw (found, y) (ap (λ (x : Known). body_of x.map) (back_known cs ok k b y)))
      (λ n. rw (found, n))

  pub asked-edition : row_edition image (row_with image k) ≡ cond (is_saved (run cs) k) (edition_in (run cs) k) 0
  asked-edition =
      part.edition_of_lem image bytes (written-good cs ok) k
      ∙ test (is_saved (run cs) k)
      (λ y. rw (found, y) (ap (λ (x : Known). x.edition) (back_known cs ok k b y)))
      (λ n. rw (found, n))

-- ---- the answers: each number exactly when, from a fixed list; and what a refusal leaves

module _ (t out : List ℕ) where
  pub save_answer : (saved_into t out).answer ≡ cond (ltb (length out) (length (image_of t))) (plain 13) (plain 0)
  unfolding saved_into
  save_answer = test (ltb (length out) (length (image_of t))) (λ y. rw y) (λ n. rw n)

  pub save_list : one_of (saved_into t out).answer.number (0 ∷ 13 ∷ []) ≡ true
  unfolding saved_into
  save_list = from-answers (λ (o : Outcome). o.answer.number) (λ a. outcome a out) (λ a. refl) (save_tests t out) (outcome (plain 0) (splice out 0 (image_of t)))

  pub save_leaves : ((saved_into t out).answer.number ≡ 0 → ⊥) → (saved_into t out).memory ≡ out
  unfolding saved_into
  save_leaves n = leaves (save_tests t out) out (outcome (plain 0) (splice out 0 (image_of t))) n

module _ (t l : List ℕ) where
  pub load_answer : (loaded t l).answer ≡ cond (good l) (cond (is_empty (held_keys t)) (plain 0) (plain 23)) (plain 21)
  unfolding loaded
  load_answer = test (good l) (λ g. test (is_empty (held_keys t)) (λ y. rw (g, y)) (λ n. rw (g, n))) (λ g. rw g)

  pub load_list : one_of (loaded t l).answer.number (0 ∷ 21 ∷ 23 ∷ []) ≡ true
  unfolding loaded
  load_list = from-answers (λ (o : Outcome). o.answer.number) (λ a. outcome a t) (λ a. refl) (load_tests t l) (outcome (plain 0) (words_from t (events_of l)))

  pub load_leaves : ((loaded t l).answer.number ≡ 0 → ⊥) → (loaded t l).memory ≡ t
  load_leaves = empty.load_refused t l

module _ (l : List ℕ) (i : ℕ) where
  pub asked-answer : row_asked l i ≡ cond (good l) (cond (leb (row_count l) i) (plain 22) (plain 0)) (plain 21)
  unfolding row_asked
  asked-answer = test (good l) (λ g. test (leb (row_count l) i) (λ y. rw (g, y)) (λ n. rw (g, n))) (λ g. rw g)

  pub asked_list : one_of (row_asked l i).number (0 ∷ 21 ∷ 22 ∷ []) ≡ true
  unfolding row_asked
  asked_list = from-answers (λ (s : Said). s.number) (λ a. a) (λ a. refl) (row_tests l i) (plain 0)
