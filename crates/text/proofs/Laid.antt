-- Pieces laid behind pieces in a page, and what the lent bytes hold when it is let go. Assumes nothing.
use Prim.Native.Nat.{ℕ}
use mathlib.Core.Path.{◌≡◌, refl, ap, ◌∙◌, subst}
use mathlib.Core.List.{List, [], ◌++◌}
use Rattle.text.specs.declared.Page.{Page as Lent}
use Rattle.text.specs.Text.{Page, page, put_all}
use Rattle.text.specs.Page.{held, Laid}
use Rattle.text.proofs.Pieces.{follow}

-- no piece
pub none : (p : Lent) → Laid p p []
unfolding put_all
none p = record { same = refl; holds = refl }

-- the same pieces, otherwise said
pub equal : {p q : Lent} {xs ys : List (List ℕ)} → xs ≡ ys → Laid p q xs → Laid p q ys
equal {p} {q} e l = subst (Laid p q) e l

-- some pieces, and then some more
pub next : {p q r : Lent} {xs ys : List (List ℕ)} → Laid p q xs → Laid q r ys → Laid p r (xs ++ ys)
next {p} {q} {r} {xs} {ys} l m = record { same = m.same ∙ l.same; holds = follow (held p) (held q) (held r) xs ys l.holds m.holds }

-- where the next piece would go, and what the bytes hold
pub let_go : {p q : Lent} {xs : List (List ℕ)} {s : Page} {at : ℕ} {bytes : List ℕ} → held p ≡ s → Laid p q xs → at ≡ q.at → bytes ≡ q.out.now → page at bytes ≡ put_all s xs
let_go {p} {q} {xs} {s} {at} {bytes} e l f g = (λ i. page (f i) (g i)) ∙ l.holds ∙ ap (λ (x : Page). put_all x xs) e
