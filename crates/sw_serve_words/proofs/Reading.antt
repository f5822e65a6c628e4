-- Words read one by one.
use Rattle.std.proofs.Common.{◌≡◌, ℕ, List, ◌∷◌, length, map, String, Global, string_bytes, Some, None, ap}
use Rattle.std.proofs.lemmas.List.{nil_from_length}
use Rattle.sw_serve_words.specs.declared.kind.Kind.TheVariants.{Tool}
use Rattle.sw_serve_words.specs.declared.load.LoadWords.{LoadWords}
use Rattle.sw_serve_words.specs.declared.serve.ServeWords.{ServeWords}
use Rattle.sw_serve_words.specs.Kinds.{kind_named, kind_of}
use Rattle.sw_serve_words.specs.Load.{with_load, load_named, load_more, load_words}
use Rattle.sw_serve_words.specs.Serve.{with_serve, serve_named, serve_more, serve_words}

pub load_first : (ws rest : List (String Global)) (name : String Global) (w : LoadWords) → ws ≡ name ∷ rest → load_words (map string_bytes ws) w ≡ load_named (string_bytes name) (map string_bytes rest) w
load_first ws rest name w e = ap (λ l. load_words (map string_bytes l) w) e

pub load_end : (ws : List (String Global)) (w : LoadWords) → length ws ≡ 0 → load_words (map string_bytes ws) w ≡ Some w
load_end ws w e = ap (λ l. load_words (map string_bytes l) w) (nil_from_length ws e)

pub load_value : (ws rest : List (String Global)) (value : String Global) (name : List ℕ) (w : LoadWords) → ws ≡ value ∷ rest → load_named name (map string_bytes ws) w ≡ load_more (with_load w name (string_bytes value)) (map string_bytes rest)
load_value ws rest value name w e = ap (λ l. load_named name (map string_bytes l) w) e

pub load_valueless : (ws : List (String Global)) (name : List ℕ) (w : LoadWords) → length ws ≡ 0 → load_named name (map string_bytes ws) w ≡ None
load_valueless ws name w e = ap (λ l. load_named name (map string_bytes l) w) (nil_from_length ws e)

pub serve_first : (ws rest : List (String Global)) (name : String Global) (w : ServeWords) → ws ≡ name ∷ rest → serve_words (map string_bytes ws) w ≡ serve_named (string_bytes name) (map string_bytes rest) w
serve_first ws rest name w e = ap (λ l. serve_words (map string_bytes l) w) e

pub serve_end : (ws : List (String Global)) (w : ServeWords) → length ws ≡ 0 → serve_words (map string_bytes ws) w ≡ Some w
serve_end ws w e = ap (λ l. serve_words (map string_bytes l) w) (nil_from_length ws e)

pub serve_value : (ws rest : List (String Global)) (value : String Global) (name : List ℕ) (w : ServeWords) → ws ≡ value ∷ rest → serve_named name (map string_bytes ws) w ≡ serve_more (with_serve w name (string_bytes value)) (map string_bytes rest)
serve_value ws rest value name w e = ap (λ l. serve_named name (map string_bytes l) w) e

pub serve_valueless : (ws : List (String Global)) (name : List ℕ) (w : ServeWords) → length ws ≡ 0 → serve_named name (map string_bytes ws) w ≡ None
serve_valueless ws name w e = ap (λ l. serve_named name (map string_bytes l) w) (nil_from_length ws e)

pub kind_first : (ws rest : List (String Global)) (first : String Global) → ws ≡ first ∷ rest → kind_of (map string_bytes ws) ≡ kind_named (string_bytes first) (map string_bytes rest)
kind_first ws rest first e = ap (λ l. kind_of (map string_bytes l)) e

pub kind_none : (ws : List (String Global)) → length ws ≡ 0 → kind_of (map string_bytes ws) ≡ Tool
kind_none ws e = ap (λ l. kind_of (map string_bytes l)) (nil_from_length ws e)
