-- A part of a buffer, a buffer with a part replaced, and the records of one size that a buffer holds. Assumes nothing.
use Rattle.std.specs.Prelude.{ℕ, zero, suc, ◌+◌, ◌*◌, List, [], ◌∷◌, ◌++◌, length, take, drop}

-- the n bytes that begin at `at`
abbrev pub part : ℕ → ℕ → List ℕ → List ℕ
part n at bs = take n (drop at bs)

-- bs with xs in the place of its bytes from `at` on
unfoldable pub splice : ℕ → List ℕ → List ℕ → List ℕ
splice at xs bs = take at bs ++ xs ++ drop (at + length xs) bs

-- the i-th of the records of `size` bytes that a buffer holds
abbrev pub chunk : ℕ → List ℕ → ℕ → List ℕ
chunk size bs i = part size (size * i) bs

-- f at each index below n, in order
abbrev pub tab : {A : Type 0} → (ℕ → A) → ℕ → List A
tab f zero = []
tab f (suc n) = f 0 ∷ tab (λ (j : ℕ). f (suc j)) n

-- the first n records of a buffer, each as `decode` reads it
unfoldable pub records_in : {A : Type 0} → ℕ → (List ℕ → A) → ℕ → List ℕ → List A
records_in size decode n bs = tab (λ (i : ℕ). decode (chunk size bs i)) n

-- the bytes of a list of records, each as `encode` spells it
unfoldable pub spelled : {A : Type 0} → (A → List ℕ) → List A → List ℕ
spelled encode [] = []
spelled encode (x ∷ xs) = encode x ++ spelled encode xs
