-- What is known of the bytes of an array that a function is given by value. Assumes nothing.
use mathlib.Core.List.{List, [], ◌∷◌}
use Prim.Native.Nat.{ℕ, zero, suc}
use lib.Dec.{lit<}
use mir.Syntax.{w8}
use mir.Val.{Val}
use denote.Shadow.{shadow}
use denote.Laws.{Is}
use denote.Plain.{UInt}
use denote.Array.{Array, each}
use Rattle.laws.specs.Value.{Bytes}
use Rattle.protocol.proofs.Whole.{Thirty}

each_byte : (s : List ℕ) (us : List Val) → shadow (each ℕ (UInt w8).own_val s us) → Bytes s
each_byte [] us h k = lit< tt
each_byte (x ∷ s) [] h k = absurd h
each_byte (x ∷ s) (u ∷ us) h zero = h.0.1
each_byte (x ∷ s) (u ∷ us) h (suc k) = each_byte s us h.1 k

pub held_thirty : (s : List ℕ) (vs : List Val) → Is (Array (UInt w8) 30) s vs → Thirty s
held_thirty s vs h = record { long = h.1.0.1; bytes = each_byte s h.0 h.1.1 }
