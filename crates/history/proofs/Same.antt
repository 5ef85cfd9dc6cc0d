-- Two histories that leave the key of an event the same collection of messages answer the event alike, where at no moment more than 16 keys have
-- messages: order, repeats and other keys don't count for a call's own answer either.
-- Assumes nothing.
use mathlib.Core.Path.{◌≡◌, sym, ap, ◌∙◌}
use mathlib.Core.Logic.{⊎_elim}
use mathlib.Core.List.Memᴰ
use mathlib.Core.List.{List, ◌∷◌}
use Rattle.message.specs.declared.Key.{Key}
use Rattle.message.specs.declared.Message.{Message}
use Rattle.maps.specs.Maps.{conflict, SameMembers, is_nothing, is_conflict}
use Rattle.maps.proofs.Maps.{same_map}
use Rattle.history.specs.History.{Event, Learn, Forget, Edition, subject, is_empty, since, answer, Few}
use Rattle.history.proofs.Follows.{nothing_is, conflict-is}
use Rattle.history.proofs.Demand.{room}

-- one message more in both
with_message : (m : Message) (s t : List Message) → SameMembers s t → SameMembers (m ∷ s) (m ∷ t)
with_message m s t same x = (
  λ i. ⊎_elim (λ e. Memᴰ.head e) (λ j. Memᴰ.tail ((same x).0 j)) (Memᴰ.cases_cons i),
  λ i. ⊎_elim (λ e. Memᴰ.head e) (λ j. Memᴰ.tail ((same x).1 j)) (Memᴰ.cases_cons i),
)

pub same-conflict : (m : Message) (s t : List Message) → SameMembers s t → conflict (m ∷ s) ≡ conflict (m ∷ t)
same-conflict m s t same =
    sym (conflict-is m s) ∙ ap is_conflict (same_map (m ∷ s) (m ∷ t) (with_message m s t same)) ∙ conflict-is m t

pub same_empty : (s t : List Message) → SameMembers s t → is_empty s ≡ is_empty t
same_empty s t same = sym (nothing_is s) ∙ ap is_nothing (same_map s t same) ∙ nothing_is t

-- a forget's answer goes by the collection alone
pub same-forgotten : (h g : List Event) (k : Key) → SameMembers (since h k) (since g k) → answer h (Forget k) ≡ answer g (Forget k)
same-forgotten h g k same = rw (same_empty (since h k) (since g k) same)

pub same_answer : (h g : List Event) (e : Event) → Few (e ∷ h) → Few (e ∷ g) → SameMembers (since h (subject e)) (since g (subject e)) → answer h e ≡ answer g e
same_answer h g (Learn m) u v same =
    rw (room h m u.0, room g m v.0, same-conflict m (since h m.key) (since g m.key) same)
same_answer h g (Forget k) u v same = same-forgotten h g k same
same_answer h g (Edition k e) u v same = rw (same_empty (since h k) (since g k) same)
