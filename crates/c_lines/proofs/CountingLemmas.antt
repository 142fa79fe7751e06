-- A compiler that leaves out no region reads all tokens.
use Rattle.std.proofs.Common.{rules, arith}
use Rattle.std.proofs.lemmas.Bool.Decides.{nat_tests}
use Rattle.std.proofs.Common.{◌≡◌, ℕ, Bool, true, false, List, [], ◌∷◌, ◌++◌, map, drop, length}
use Rattle.std.proofs.Common.{refl, ap, sym, subst}
use Rattle.std.specs.Prelude.{◌||◌, filter, flat_map}
use Rattle.std.specs.Str.{bytes_eq}
use Rattle.std.proofs.lemmas.Bool.{cond_both}
use Rattle.std.proofs.lemmas.List.{map-append, append_assoc}
use Rattle.std.proofs.lemmas.Slice.Eq.{bytes_eq-Decides}
use Rattle.c_tokens.specs.Bytes.{line_feed}
use Rattle.c_tokens.specs.Grammar.{is_token, is_punctuator}
use Rattle.c_tokens.specs.Reading.{elements, tokens}
use Rattle.c_lines.specs.Counting.{Place, PlacedElement, LineOfTokens, LineCount, TokenRead, places, with_places, tokens_at}
use Rattle.c_lines.specs.Counting.{lines, begins_directive, directive, begins_group, turns_group, region_after}
use Rattle.c_lines.specs.Counting.{counted, count_after, read_of, reads, c_reads}

abbrev texts_of : List PlacedElement → List (List ℕ)
texts_of es = map (λ e. e.text) es

abbrev tokens_in : List LineOfTokens → List (List ℕ)
tokens_in ls = flat_map (λ l. texts_of l.tokens) ls

abbrev tokens_of : List TokenRead → List (List ℕ)
tokens_of found = map (λ read. read.token) found

abbrev tokens_among : List PlacedElement → List PlacedElement
tokens_among es = filter (λ e. is_token e.text) es

placed-texts : (ps : List Place) (es : List (List ℕ)) → texts_of (tokens_among (with_places ps es))
    ≡ filter is_token es
placed-texts ps [] = refl
placed-texts ps (e ∷ es) = grind (arith, nat_tests, placed-texts (drop (length e) ps) es)

-- the texts of the tokens of a text are its tokens
pub token-texts : (p : Place) (text : List ℕ) → texts_of (tokens_at p text) ≡ tokens text
token-texts p text = placed-texts (places p text) (elements text)

-- a line feed is no token
line-feed-no-token : (e : List ℕ) → bytes_eq e (line_feed ∷ []) ≡ true → is_token e ≡ false
unfolding is_token is_punctuator
line-feed-no-token e h = subst (λ t. is_token t ≡ false) (sym ((bytes_eq-Decides e (line_feed ∷ [])).0 h)) refl

lines-tokens : (es front : List PlacedElement) → tokens_in (lines front es) ≡ texts_of front
    ++ texts_of (tokens_among es)
lines-tokens [] front = refl
lines-tokens (e ∷ es) front =
    grind (arith, nat_tests, line-feed-no-token e.text, lines-tokens es, map-append, append_assoc)

read-texts : (count : LineCount) (b : Bool) (es : List PlacedElement) →
    tokens_of (map (λ e. record { token = e.text; at = e.place.at; origin = counted count e.place.row; in_directive = b }) es) ≡ texts_of es
read-texts count b [] = refl
read-texts count b (e ∷ es) = ap (λ more. e.text ∷ more) (read-texts count b es)

read-after : (words : List (List ℕ)) → region_after words true true ≡ true
read-after words = search rules

reads-tokens : (count : LineCount) (ls : List LineOfTokens) → tokens_of (reads [] true count ls) ≡ tokens_in ls
reads-tokens count [] = refl
reads-tokens count (line ∷ ls) =
    let words = directive line.tokens in
    let here = read-texts count (begins_directive line.tokens) line.tokens in
    let more = reads-tokens (count_after count line.end words) ls in
    rw (cond_both (begins_group words || turns_group words) [] [] (λ (bs : List Bool). bs ≡ []) (λ _. refl) (λ _. refl))
    (search (rules, read-after, map-append (λ read. read.token) (read_of count line.tokens), here, more))

pub all_counted : (file text : List ℕ) → tokens_of (c_reads [] file text) ≡ tokens text
all_counted file text =
    search (rules, reads-tokens, lines-tokens, token-texts)
