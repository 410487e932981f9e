-- Lists of bytes, and the eight bytes from a place on, one by one.
use mathlib.Core.Path.{◌≡◌, refl, sym, ap, ◌∙◌}
use mathlib.Core.List.{List, [], ◌∷◌, reverse, reverse_aux}
use Prim.Native.Nat.{ℕ, zero, suc, ◌+◌, ◌≤◌, ◌<◌}
use native.Mathlib.Nat.{add-zero, add-suc}
use native.Mathlib.Omega.{arith}
use lib.ListN.{length, get_or, take, drop, length-drop}
use lib.Seq.{drop-cons, get_or-drop, length-take-le}
use Rattle.word.specs.Number.{Bytes, eight}

pub bytes_nil : Bytes []
bytes_nil k = omega arith

pub bytes_cons : (b : ℕ) (s : List ℕ) → b < 256 → Bytes s → Bytes (b ∷ s)
bytes_cons b s h all zero = h
bytes_cons b s h all (suc k) = all k

pub bytes_drop : (n : ℕ) (s : List ℕ) → Bytes s → Bytes (drop n s)
bytes_drop n s all k = rw (get_or-drop n s k 0) (all (n + k))

pub bytes_take : (n : ℕ) (s : List ℕ) → Bytes s → Bytes (take n s)
bytes_take zero s all = bytes_nil
bytes_take (suc n) [] all = bytes_nil
bytes_take (suc n) (b ∷ s) all = bytes_cons b (take n s) (all 0) (bytes_take n s (λ k. all (suc k)))

bytes_behind : (s r : List ℕ) → Bytes s → Bytes r → Bytes (reverse_aux s r)
bytes_behind [] r all rest = rest
bytes_behind (b ∷ s) r all rest = bytes_behind s (b ∷ r) (λ k. all (suc k)) (bytes_cons b r (all 0) rest)

pub bytes_reverse : (s : List ℕ) → Bytes s → Bytes (reverse s)
bytes_reverse s all = bytes_behind s [] all bytes_nil

-- ---- n bytes from a place on

pub bytes_eight : (s : List ℕ) (at : ℕ) → Bytes s → Bytes (eight s at)
bytes_eight s at all = bytes_take 8 (drop at s) (bytes_drop at s all)

pub length_eight : (s : List ℕ) (at : ℕ) → at + 8 ≤ length s → length (eight s at) ≡ 8
length_eight s at h = length-take-le 8 (drop at s) (omega (arith, length-drop at s))

-- ---- the other way round

-- what stands behind the bytes that are turned, and the bytes
get_or_behind : (s r : List ℕ) (j : ℕ) → get_or (reverse_aux s r) (j + length s) 0 ≡ get_or r j 0
get_or_behind [] r j = ap (λ (i : ℕ). get_or r i 0) (add-zero j)
get_or_behind (b ∷ s) r j =
    let q : j + suc (length s) ≡ suc j + length s = omega arith in
    rw q (get_or_behind s (b ∷ r) (suc j))

get_or_turned : (s r : List ℕ) (i k : ℕ) → i + suc k ≡ length s → get_or (reverse_aux s r) k 0 ≡ get_or s i 0
get_or_turned [] r i k e = absurd (omega arith)
get_or_turned (b ∷ s) r zero k e =
    let q : k ≡ 0 + length s = omega arith in
    rw q (get_or_behind s (b ∷ r) 0)
get_or_turned (b ∷ s) r (suc i) k e = get_or_turned s (b ∷ r) i k (omega arith)

pub get_d_reverse : (s : List ℕ) (i k : ℕ) → i + suc k ≡ length s → get_or (reverse s) k 0 ≡ get_or s i 0
get_d_reverse s i k e = get_or_turned s [] i k e
