-- The frames that wait, and the words that stand for them. Assumes nothing.
use Prim.Native.Nat.{ℕ, ◌+◌, ◌*◌, ◌/◌, ◌^◌, ◌<◌}
use native.Mathlib.Omega.{arith}
use mathlib.Core.Path.{◌≡◌, sym, subst}
use mathlib.Core.Bool.{true}
use mathlib.Core.Option
use mathlib.Core.Option.{Option, some, some-ne-none, some-injective}
use mathlib.Core.List.{List, [], ◌∷◌, ◌++◌, map}
use lib.Dec.{leb}
use Rattle.words.proofs.Tests.{test}
use Rattle.ports.specs.Filters.{two_ports}
use Rattle.ports.proofs.Numbers.{two}
use Rattle.queue.specs.Queue.{least, leaver, stayers}
use Rattle.queue.specs.Row.{word_of, from_in, id_in, priority_in}
use Rattle.queue.proofs.Leaving.{leaver-map, stayers-map}
use Rattle.traffic.specs.Traffic.{Frame, priority_of}

-- the word of a frame
abbrev pub word_for : Frame → ℕ
word_for x = word_of x.from x.id

-- a frame that can wait at a port
pub record Sound (port : ℕ) (x : Frame) : Type 0 where
  pub two_ports_lem : two_ports x.from port ≡ true
  pub short : x.id < 2 ^ 32

module _ (port : ℕ) (x : Frame) (s : Sound port x) where
  pub from_back : from_in (word_for x) ≡ x.from
  from_back =
      let h = (two x.from port s.two_ports_lem).from-most in
      let q : (x.from * 2 ^ 32 + x.id) / 2 ^ 32 ≡ x.from = omega (arith, s.short) in
      omega (arith, q, h)

  pub id_back : id_in (word_for x) ≡ x.id
  id_back = omega (arith, s.short)

-- the priority bits are the identifier's
pub priority_back : (x : Frame) → priority_in (word_for x) ≡ priority_of x
priority_back x =
    let q : (x.from * 2 ^ 32 + x.id) / 2 ^ 26 ≡ x.from * 64 + x.id / 2 ^ 26 = omega arith in
    rw q (omega arith)

-- who leaves, and who stays, by the words
pub word_leaves : (l : List Frame) → leaver priority_in (map word_for l) ≡ Option.map word_for (leaver priority_of l)
word_leaves l = leaver-map word_for priority_of priority_in priority_back l

pub words_stay : (l : List Frame) → stayers priority_in (map word_for l) ≡ map word_for (stayers priority_of l)
words_stay l = stayers-map word_for priority_of priority_in priority_back l

-- ---- every frame of a list

abbrev pub AllSound : ℕ → List Frame → Type 0
AllSound port [] = Unit {0}
AllSound port (x ∷ l) = Sound port x × AllSound port l

pub sound_behind : (port : ℕ) (l : List Frame) (x : Frame) → AllSound port l → Sound port x → AllSound port (l ++ (x ∷ []))
sound_behind port [] x a s = (s, tt)
sound_behind port (y ∷ l) x a s = (a.0, sound_behind port l x a.1 s)

pub sound_stay : (port : ℕ) (l : List Frame) → AllSound port l → AllSound port (stayers priority_of l)
unfolding stayers
sound_stay port [] a = tt
sound_stay port (x ∷ l) a = test (leb (priority_of x) (least priority_of l)) (λ y. rw y a.1) (λ n. rw n (a.0, sound_stay port l a.1))

pub sound_leaver : (port : ℕ) (l : List Frame) (x : Frame) → AllSound port l → leaver priority_of l ≡ some x → Sound port x
unfolding leaver
sound_leaver port [] x a e = absurd (some-ne-none x (sym e))
sound_leaver port (y ∷ l) x a e =
    test (leb (priority_of y) (least priority_of l)) (λ t. subst (Sound port) (some-injective y x (rw t at e)) a.0) (λ t. sound_leaver port l x a.1 (rw t at e))
