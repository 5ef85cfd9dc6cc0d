-- Editions given after a history: they change no set, no answer to a message and no other key's edition. Assumes nothing.
use Prim.Native.Nat.{ℕ, ◌≤◌}
use mathlib.Core.Path.{◌≡◌, refl, sym, ap, ◌∙◌}
use mathlib.Core.Bool.{true, false}
use mathlib.Core.List.{List, [], ◌∷◌, ◌++◌}
use lib.ListN.{length}
use Rattle.words.proofs.Tests.{test, never}
use Rattle.message.specs.declared.Key.{Key}
use Rattle.message.specs.declared.Message.{Message}
use Rattle.maps.specs.Maps.{same_key}
use Rattle.maps.proofs.Tests.{key_eq}
use Rattle.history.specs.History.{most_keys, Event, Edition, is_empty, since, keys, is_edition, kept, edition_of, Few}
use Rattle.history.proofs.Keys.{has, Once}
use Rattle.history.proofs.Since.{since-edition}
use Rattle.history.proofs.Demand.{kept-edition}
use Rattle.history.proofs.Edition.{edition-set, edition-other}
use Rattle.image.proofs.Parse.{edited_all}
use Rattle.image.proofs.Members.{learn_all}

module _ (edition : Key → ℕ) where
  pub since-edited : (ks : List Key) (h : List Event) (k : Key) → since (edited_all edition ks h) k ≡ since h k
  unfolding edited_all
  since-edited [] h k = refl
  since-edited (j ∷ ks) h k = since-edited ks (Edition j (edition j) ∷ h) k ∙ since-edition j (edition j) h k

  pub keys-edited : (ks : List Key) (h : List Event) → keys (edited_all edition ks h) ≡ keys h
  unfolding edited_all
  keys-edited [] h = refl
  keys-edited (j ∷ ks) h = keys-edited ks (Edition j (edition j) ∷ h)

  pub few_edited : (ks : List Key) (h : List Event) → length (keys h) ≤ most_keys → Few h → Few (edited_all edition ks h)
  unfolding edited_all
  few_edited [] h l u = u
  few_edited (j ∷ ks) h l u = few_edited ks (Edition j (edition j) ∷ h) l (l, u)

  -- they stand behind whatever came before
  pub edited-append : (ks : List Key) (a b : List Event) → edited_all edition ks a ++ b ≡ edited_all edition ks (a ++ b)
  unfolding edited_all
  edited-append [] a b = refl
  edited-append (j ∷ ks) a b = edited-append ks (Edition j (edition j) ∷ a) b

  -- none of them is left out
  pub kept-edited : (ks : List Key) (h : List Event) → kept (edited_all edition ks h) ≡ edited_all edition ks (kept h)
  unfolding edited_all
  kept-edited [] h = refl
  kept-edited (j ∷ ks) h = kept-edited ks (Edition j (edition j) ∷ h) ∙ ap (edited_all edition ks) (kept-edition h j (edition j))

  -- a key that is not named has the edition that it had
  pub edition-not : (ks : List Key) (h : List Event) (k : Key) → has k ks ≡ false → edition_of (edited_all edition ks h) k ≡ edition_of h k
  unfolding edited_all
  edition-not [] h k f = refl
  edition-not (j ∷ ks) h k f =
      test (same_key j k) (λ t. never (rw t) f)
      (λ n. edition-not ks (Edition j (edition j) ∷ h) k (rw n at f) ∙ edition-other (Edition j (edition j)) h k n)

  -- a held one that is named once has its own
  pub edition_given : (ks : List Key) → Once ks → (h : List Event) (k : Key) → has k ks ≡ true → is_empty (since h k) ≡ false → is_edition (edition k) ≡ true
      → edition_of (edited_all edition ks h) k ≡ edition k
  unfolding edited_all
  edition_given [] u h k t held two = never t refl
  edition_given (j ∷ ks) u h k t held two =
      test (same_key j k)
      (λ s. let q = key_eq j k s in
      edition-not ks (Edition j (edition j) ∷ h) k (rw q at u.0) ∙ ap (λ (x : Key). edition_of (Edition x (edition x) ∷ h) k) q ∙ edition-set h k (edition k) held two)
      (λ n. edition_given ks u.1 (Edition j (edition j) ∷ h) k (rw n at t) (ap is_empty (since-edition j (edition j) h k) ∙ held) two)

  -- two histories with the same set of a key and the same edition of it go on alike
  pub edition_alike : (ks : List Key) (h g : List Event) (k : Key) → since h k ≡ since g k → edition_of h k ≡ edition_of g k → edition_of (edited_all edition ks h) k ≡ edition_of (edited_all edition ks g) k
  unfolding edited_all edition_of
  edition_alike [] h g k s e = e
  edition_alike (j ∷ ks) h g k s e =
      edition_alike ks (Edition j (edition j) ∷ h) (Edition j (edition j) ∷ g) k
      (since-edition j (edition j) h k ∙ s ∙ sym (since-edition j (edition j) g k))
      (test (same_key j k) (λ t. let q = key_eq j k t in rw (t, q, s, e)) (λ n. rw n e))

-- messages alone set none
pub edition-learned : (ms : List Message) (g : List Event) (k : Key) → edition_of (learn_all ms ++ g) k ≡ edition_of g k
unfolding edition_of
edition-learned [] g k = refl
edition-learned (m ∷ ms) g k = edition-learned ms g k

pub edition-fresh : (ms : List Message) (k : Key) → edition_of (learn_all ms) k ≡ 2010
unfolding edition_of
edition-fresh [] k = refl
edition-fresh (m ∷ ms) k = edition-fresh ms k
