-- What a frame's answer says for the table: a refusal leaves the words, a message is learned, and its start has its place in a cell. Assumes nothing.
use Prim.Native.Nat.{ℕ}
use mathlib.Core.Path.{◌≡◌, sym, ap}
use mathlib.Core.List.{List}
use native.Mathlib.Omega.{arith}
use Rattle.answers.specs.Answers.{outcome, plain}
use Rattle.frame.specs.Frame.{fields_of}
use Rattle.message.specs.declared.Message.{Message}
use Rattle.std.specs.Prelude.{Ok, Err}
use Rattle.message.specs.declared.Fault.{Fault}
use Rattle.message.specs.Fault.{fault_number}
use Rattle.message.specs.Message.{Heard, heard_of, heard, wire_of}
use Rattle.message.proofs.WellFormed.{WellFormed, heard_exactly, heard-message}
use Rattle.table.specs.Layout.{Storable}
use Rattle.table.specs.Learn.{learn_message, taught, learnt}

module _ (t : List ℕ) (id len : ℕ) (d : List ℕ) where
  pub refused : (x : Fault) → heard_of (Err x) ≡ heard id len d → outcome (plain (fault_number x)) t ≡ learnt t id len d
  unfolding learnt
  refused x e = ap (λ (h : Heard). taught t h.number h.message) e

  pub taken : (m : Message) → heard_of (Ok m) ≡ heard id len d → learn_message t m ≡ learnt t id len d
  unfolding learnt
  taken m e = ap (λ (h : Heard). taught t h.number h.message) e

module _ (id len : ℕ) (d : List ℕ) (m : Message) (e : heard_of (Ok m) ≡ heard id len d) where
  pub well : WellFormed id len (fields_of id) (wire_of d)
  well = (heard_exactly id len d).0 (sym (ap (λ (h : Heard). h.number) e))

  pub storable : Storable m
  storable = rw (heard-message id len d m (sym (ap (λ (h : Heard). h.message) e))).1 (omega (arith, well.start.1))
