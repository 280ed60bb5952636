-- A text stored in a lent buffer, or any items in a slice. Document 01: "An accepted write changes only the text's bytes at the buffer's start".
use Rattle.std.specs.Prelude.{ℕ, ◌+◌, List, ◌++◌, length, take, drop}

-- a text stored in a buffer from a place on, the rest as before
unfoldable pub stored : {A : Type 0} → (buffer : List A) (at : ℕ) (text : List A) → List A
stored buffer at text = take at buffer ++ (text ++ drop (at + length text) buffer)
