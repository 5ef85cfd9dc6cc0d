-- A whole text handed out: whether there was room for it or not, and the text that a page holds. Assumes nothing.
use Prim.Native.Nat.{ℕ, ◌%◌, ◌≤◌, ◌<◌}
use mathlib.Core.Path.{◌≡◌, sym, ap, ◌∙◌}
use mathlib.Core.Bool.{true, false, cond}
use mathlib.Core.List.{List}
use native.Mathlib.Nat.{mod-eq_of_lt}
use native.Mathlib.Omega.{arith}
use lib.ListN.{length, take, length-take}
use Rattle.answers.specs.Answers.{Said, outcome, plain, done}
use Rattle.splice.specs.Splice.{fits, splice, laid}
use Rattle.text.specs.Text.{Page, handed}
use Rattle.text.proofs.Pages.{Holds}

module _ (out text after : List ℕ) (a : Said) (e : after ≡ laid out 0 text) where
  pub handed_there : fits out 0 text ≡ true → a ≡ done (length text % 4294967296) → outcome a after ≡ handed out text
  unfolding handed
  handed_there f g = rw (e, g, f)

  pub handed-not : fits out 0 text ≡ false → a ≡ plain 13 → outcome a after ≡ handed out text
  unfolding handed
  handed-not f g = rw (e, g, f)

-- a page that holds a text
module _ (size : ℕ) (p : Page) (text : List ℕ) (h : Holds size p text) where
  -- is no shorter than it
  pub within : p.at ≤ length p.bytes
  within = omega (arith, h.next, sym (length-take p.at p.bytes) ∙ ap length h.text_is)

  -- and its first bytes are handed out as that text, with its whole length where the page has fewer than 2^32 bytes
  pub handed-page : size < 4294967296 → (out : List ℕ)
      → handed out (take p.at p.bytes) ≡ cond (fits out 0 text) (outcome (done (length text)) (splice out 0 text)) (outcome (plain 13) out)
  unfolding handed
  handed-page few out =
      rw h.text_is
      (ap (λ (n : ℕ). cond (fits out 0 text) (outcome (done n) (splice out 0 text)) (outcome (plain 13) out))
      (mod-eq_of_lt (omega (arith, within, h.long, h.next))))
