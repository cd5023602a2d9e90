-- Digits are put lowest first, and the definitions put the lowest last: the digits of a number are those of its quotient, and then the last.
-- Assumes nothing.
use Rattle.std.proofs.Common.{◌≡◌, ℕ, zero, suc, ◌+◌, ◌*◌, ◌/◌, ◌%◌, ◌^◌, ◌<◌, ◌≤◌, Bool, true, false, ltb, List, [], ◌∷◌, ◌++◌, length, sym, refl, ap, ◌∙◌, append_assoc, pow-suc, arith, length-append, le-ltb, lt-ltb}
use native.Mathlib.Nat.{one-le-pow}
use native.Mathlib.Decide.{dec_le}
use Rattle.mesh.specs.Page.{decimal_in, decimal, hex_in}
use Rattle.lines.specs.LineRows.{hex_digit}
use Rattle.lines.proofs.Puts.{places, length-places}

-- ---- decimal digits

decimal-append : (f n : ℕ) (r : List ℕ) → decimal_in f n r ≡ decimal_in f n [] ++ r
unfolding decimal_in
decimal-append zero n r = refl
decimal-append (suc f) n r = go (ltb n 10) (decimal-append f (n / 10) ((48 + n % 10) ∷ r)) (decimal-append f (n / 10) ((48 + n % 10) ∷ []))
  where
    go : (b : Bool)
        → decimal_in f (n / 10) ((48 + n % 10) ∷ r) ≡ decimal_in f (n / 10) [] ++ ((48 + n % 10) ∷ r)
        → decimal_in f (n / 10) ((48 + n % 10) ∷ []) ≡ decimal_in f (n / 10) [] ++ ((48 + n % 10) ∷ [])
        → elim b [ true ↦ (48 + n % 10) ∷ r | false ↦ decimal_in f (n / 10) ((48 + n % 10) ∷ r) ]
        ≡ elim b [ true ↦ (48 + n % 10) ∷ [] | false ↦ decimal_in f (n / 10) ((48 + n % 10) ∷ []) ] ++ r
    go true h k = refl
    go false h k = h ∙ sym (rw (k, append_assoc))

-- ---- hexadecimal digits

hex-append : (f n : ℕ) (r : List ℕ) → hex_in f n r ≡ hex_in f n [] ++ r
unfolding hex_in
hex-append zero n r = refl
hex-append (suc f) n r =
    let x : ℕ = hex_digit (n % 16) in
    hex-append f (n / 16) (hex_digit (n % 16) ∷ r) ∙ sym (rw (hex-append f (n / 16) (hex_digit (n % 16) ∷ []), append_assoc))

-- ---- digits in their places

pub hex-places : (f n : ℕ) → hex_in f n [] ≡ places hex_digit 16 f n
unfolding hex_in places
hex-places zero n = refl
hex-places (suc f) n = hex-append f (n / 16) (hex_digit (n % 16) ∷ []) ∙ ap (λ (z : List ℕ). z ++ (hex_digit (n % 16) ∷ [])) (hex-places f (n / 16))

pub hex-long : (f n : ℕ) → length (hex_in f n []) ≡ f
hex-long f n = ap length (hex-places f n) ∙ length-places hex_digit 16 f n

abbrev pub dec_digit : ℕ → ℕ
dec_digit x = 48 + x

decimal-in-places : (f n : ℕ) → decimal_in f n [] ≡ places dec_digit 10 (length (decimal_in f n [])) n
unfolding decimal_in places
decimal-in-places zero n = refl
decimal-in-places (suc f) n = go (ltb n 10) (decimal-in-places f (n / 10))
  where
    go : (b : Bool) → decimal_in f (n / 10) [] ≡ places dec_digit 10 (length (decimal_in f (n / 10) [])) (n / 10)
        → elim b [ true ↦ (48 + n % 10) ∷ [] | false ↦ decimal_in f (n / 10) ((48 + n % 10) ∷ []) ]
        ≡ places dec_digit 10 (length {A = ℕ} (elim b [ true ↦ (48 + n % 10) ∷ [] | false ↦ decimal_in f (n / 10) ((48 + n % 10) ∷ []) ])) n
    go true h = refl
    go false h =
        let e : decimal_in f (n / 10) ((48 + n % 10) ∷ []) ≡ decimal_in f (n / 10) [] ++ ((48 + n % 10) ∷ []) = decimal-append f (n / 10) ((48 + n % 10) ∷ []) in
        let l : length (decimal_in f (n / 10) ((48 + n % 10) ∷ [])) ≡ suc (length (decimal_in f (n / 10) [])) =
        omega (arith, ap length e, length-append (decimal_in f (n / 10) []) ((48 + n % 10) ∷ [])) in
        e ∙ ap (λ (z : List ℕ). z ++ ((48 + n % 10) ∷ [])) h ∙ ap (λ (k : ℕ). places dec_digit 10 k n) (sym l)

pub decimal-places : (n : ℕ) → decimal n ≡ places dec_digit 10 (length (decimal n)) n
unfolding decimal
decimal-places n = decimal-in-places 20 n

-- ---- how many digits

size-one : (f n : ℕ) → n < 10 → length (decimal_in (suc f) n []) ≡ 1
unfolding decimal_in
size-one f n h = rw (decimal_in, lt-ltb n 10 h)

size-more : (f n : ℕ) → 10 ≤ n → length (decimal_in (suc f) n []) ≡ suc (length (decimal_in f (n / 10) []))
unfolding decimal_in
size-more f n h =
    rw (decimal_in, le-ltb n 10 h)
    (ap length (decimal-append f (n / 10) ((48 + n % 10) ∷ [])) ∙ length-append (decimal_in f (n / 10) []) ((48 + n % 10) ∷ []) ∙ omega arith)

size_in : (k f n : ℕ) → 10 ^ k ≤ n → n < 10 ^ suc k → k < f → length (decimal_in f n []) ≡ suc k
size_in k zero n a b h = absurd (omega arith)
size_in zero (suc f) n a b h = size-one f n (omega arith)
size_in (suc k) (suc f) n a b h =
    let p : 10 ^ suc k ≡ 10 ^ k * 10 = pow-suc 10 k in
    let q : 10 ^ suc (suc k) ≡ 10 ^ suc k * 10 = pow-suc 10 (suc k) in
    let l : 1 ≤ 10 ^ k = one-le-pow k 10 (omega arith) in
    size-more f n (omega arith) ∙ ap suc (size_in k f (n / 10) (omega arith) (omega arith) (omega arith))

digits_long : (f n : ℕ) → length (decimal_in f n []) ≤ f
unfolding decimal_in
digits_long zero n = omega arith
digits_long (suc f) n = go (dec_le 10 n) (digits_long f (n / 10))
  where
    go : Dec (10 ≤ n) → length (decimal_in f (n / 10) []) ≤ f → length (decimal_in (suc f) n []) ≤ suc f
    go (yes h) k = omega (arith, size-more f n h)
    go (no h) k = omega (arith, size-one f n (omega arith))

pub decimal-long : (n : ℕ) → length (decimal n) ≤ 20
unfolding decimal
decimal-long n = digits_long 20 n

pub decimal-one : (n : ℕ) → n < 10 → length (decimal n) ≡ 1
unfolding decimal
decimal-one n h = size-one 19 n h

pub decimal-size : (k n : ℕ) → 10 ^ k ≤ n → n < 10 ^ suc k → k < 20 → length (decimal n) ≡ suc k
unfolding decimal
decimal-size k n a b h = size_in k 20 n a b h
