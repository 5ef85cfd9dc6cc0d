-- What a page holds after a piece: the two cases of `put`, and a page that is filled piece by piece. Assumes nothing.
use Prim.Native.Nat.{ℕ, ◌+◌, ◌≤◌}
use mathlib.Core.Path.{◌≡◌, refl, sym, ap, ◌∙◌}
use mathlib.Core.Bool.{true, false}
use mathlib.Core.List.{List, [], ◌++◌, append_assoc}
use native.Mathlib.Omega.{arith}
use borrow.Author.Tests.{le-leb}
use lib.ListN.{length, take, drop, length-append}
use lib.Seq.{length-take-le, take_at}
use Rattle.splice.specs.Splice.{fits, laid}
use Rattle.splice.proofs.Laws.{length-splice}
use Rattle.text.specs.Text.{Page, page, put}

module _ (l : List ℕ) (at : ℕ) (x after : List ℕ) where
  pub put_there : fits l at x ≡ true → after ≡ laid l at x → page (at + length x) after ≡ put l at x
  unfolding put
  put_there f e = rw (e, f)

  pub put-not : fits l at x ≡ false → after ≡ laid l at x → page at after ≡ put l at x
  unfolding put
  put-not f e = rw (e, f)

-- the page holds this text, and the next piece goes behind it
pub record Holds (size : ℕ) (p : Page) (text : List ℕ) : Type 0 where
  pub long : length p.bytes ≡ size
  pub next : p.at ≡ length text
  pub text_is : take p.at p.bytes ≡ text

pub nothing_yet : (l : List ℕ) → Holds (length l) (page 0 l) []
nothing_yet l = record { long = refl; next = refl; text_is = refl }

-- a piece more, where there is room
pub holds_more : (size : ℕ) (p : Page) (text x : List ℕ) → Holds size p text → length text + length x ≤ size → Holds size (put p.bytes p.at x) (text ++ x)
unfolding put
holds_more size p text x h room =
    let r : p.at + length x ≤ length p.bytes = omega (arith, h.long, h.next) in
    let t : length (take p.at p.bytes) ≡ p.at = length-take-le p.at p.bytes (omega arith) in
    rw (le-leb (p.at + length x) (length p.bytes) r)
    (record {
      long = length-splice p.bytes p.at x r ∙ h.long;
      next = ap (λ (n : ℕ). n + length x) h.next ∙ sym (length-append text x);
      text_is = sym (ap (take (p.at + length x)) (append_assoc (take p.at p.bytes) x (drop (p.at + length x) p.bytes)))
          ∙ take_at (take p.at p.bytes ++ x) (drop (p.at + length x) p.bytes) (p.at + length x) (length-append (take p.at p.bytes) x ∙ ap (λ (n : ℕ). n + length x) t)
          ∙ ap (λ (y : List ℕ). y ++ x) h.text_is;
    })
