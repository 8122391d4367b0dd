-- Trees say what they were made of.
use Rattle.std.proofs.Common.{◌≡◌, ℕ, zero, suc, Bool, true, false, List, [], ◌∷◌, map, Ok, Result, refl, sym, subst, ap, ◌∙◌, nat_eq, arith}
use Rattle.std.specs.List.{list_any}
use Rattle.std.specs.Map.{keys_of}
use Rattle.std.proofs.lemmas.Bool.Decides.{nat_tests}
use Rattle.basics.specs.declared.profile.Profile.{Profile}
use Rattle.basics.specs.declared.profile.Profile.TheVariants.{Base, Field, Opal}
use Rattle.sp_cells.specs.declared.cells.Cell.{Cell}
use Rattle.sp_cells.specs.declared.cells.Cell.TheVariants.{Number, Bytes, Uid as Object, Numbers, Expr, Columns, OneName}
use Rattle.sp_cells.specs.declared.cells.Element.{Element}
use Rattle.sp_cells.specs.declared.cells.Element.TheVariants.{Authority, And, Or}
use Rattle.sp_cells.specs.declared.cells.ResetTypes.{ResetTypes}
use Rattle.sp_cells.specs.declared.names.Uid.{Uid}
use Rattle.sp_cells.specs.declared.names.Column.{Column}
use Rattle.tcg_tokens.specs.Tree.{Tree, Trees, number, bytes, list, named, trees_of, empty, more}
use Rattle.sp_cells.specs.Config.{Config, table_sectors}
use Rattle.sp_cells.specs.Names.{uid, col}
use Rattle.sp_tables.specs.Items.{Item}
use Rattle.sp_tables.specs.Contents.{Contents}
use Rattle.shadow_mbr.specs.Stored.{StoredSectors, IsSound}
use Rattle.shadow_mbr.proofs.Same.{keep_same}
use Rattle.tcg_tokens.specs.Message.{Message, reply}
use Rattle.tcg_tokens.specs.Reading.{reading}
use Rattle.tcg_tokens.specs.declared.error.TokenError.{TokenError}
use Rattle.history.specs.History.{log}
use Rattle.drive.specs.Rest.{Rest, KeepsRest}
use Rattle.drive.proofs.Rests.{same_rest_law}
use Rattle.saved.specs.Saved.{kind, flag_tree, saved_element, saved_cell, item_tree, sector_tree, sectors_tree, saved_profile, config_tree, saved, OneRestLaw, SameDriveLaw}

abbrev resets_of : Bool → Bool → Bool → ResetTypes
resets_of x0 x1 x2 = record { power_cycle = x0; hardware = x1; programmatic = x2 }

resets_same : (x0 y0 : Bool) (x1 y1 : Bool) (x2 y2 : Bool) → x0 ≡ y0 → x1 ≡ y1 → x2 ≡ y2 → resets_of x0 x1 x2 ≡ resets_of y0 y1 y2
resets_same x0 y0 x1 y1 x2 y2 e0 e1 e2 = cc

abbrev item_of : Uid → Column → Cell → Item
item_of x0 x1 x2 = record { object = x0; column = x1; value = x2 }

item_same : (x0 y0 : Uid) (x1 y1 : Column) (x2 y2 : Cell) → x0 ≡ y0 → x1 ≡ y1 → x2 ≡ y2 → item_of x0 x1 x2 ≡ item_of y0 y1 y2
item_same x0 y0 x1 y1 x2 y2 e0 e1 e2 = cc

abbrev config_of : Profile → ℕ → ℕ → List ℕ → List ℕ → List ℕ → List ℕ → ℕ → ℕ → Config
config_of x0 x1 x2 x3 x4 x5 x6 x7 x8 = record { profile = x0; sectors = x1; mbr_sectors = x2; msid = x3; serial = x4; model = x5; psid = x6; datastore = x7; seed = x8 }

config_same : (x0 y0 : Profile) (x1 y1 : ℕ) (x2 y2 : ℕ) (x3 y3 : List ℕ) (x4 y4 : List ℕ) (x5 y5 : List ℕ) (x6 y6 : List ℕ) (x7 y7 : ℕ) (x8 y8 : ℕ) → x0 ≡ y0 → x1 ≡ y1 → x2 ≡ y2 → x3 ≡ y3 → x4 ≡ y4 → x5 ≡ y5 → x6 ≡ y6 → x7 ≡ y7 → x8 ≡ y8 → config_of x0 x1 x2 x3 x4 x5 x6 x7 x8 ≡ config_of y0 y1 y2 y3 y4 y5 y6 y7 y8
config_same x0 y0 x1 y1 x2 y2 x3 y3 x4 y4 x5 y5 x6 y6 x7 y7 x8 y8 e0 e1 e2 e3 e4 e5 e6 e7 e8 = cc

abbrev contents_of : List Item → List Item → Config → Contents
contents_of x0 x1 x2 = record { admin = x0; locking = x1; config = x2 }

contents_same : (x0 y0 : List Item) (x1 y1 : List Item) (x2 y2 : Config) → x0 ≡ y0 → x1 ≡ y1 → x2 ≡ y2 → contents_of x0 x1 x2 ≡ contents_of y0 y1 y2
contents_same x0 y0 x1 y1 x2 y2 e0 e1 e2 = cc

abbrev rest_of : Contents → StoredSectors → StoredSectors → ℕ → ℕ → Rest
rest_of x0 x1 x2 x3 x4 = record { tables = x0; bytes = x1; media = x2; next = x3; drawn = x4 }

rest_same : (x0 y0 : Contents) (x1 y1 : StoredSectors) (x2 y2 : StoredSectors) (x3 y3 : ℕ) (x4 y4 : ℕ) → x0 ≡ y0 → x1 ≡ y1 → x2 ≡ y2 → x3 ≡ y3 → x4 ≡ y4 → rest_of x0 x1 x2 x3 x4 ≡ rest_of y0 y1 y2 y3 y4
rest_same x0 y0 x1 y1 x2 y2 x3 y3 x4 y4 e0 e1 e2 e3 e4 = cc

number_one : (a b : ℕ) → number a ≡ number b → a ≡ b
number_one a b h = cc

named_first : (a b c d : Tree) → named a b ≡ named c d → a ≡ c
named_first a b c d h = cc

named_second : (a b c d : Tree) → named a b ≡ named c d → b ≡ d
named_second a b c d h = cc

not_named : (a : ℕ) (b c : Tree) → number a ≡ named b c → ⊥
not_named a b c h = cc

-- values of a list, each of which says what it was made of
nothing_more : (t : Tree) (ts : Trees) → empty ≡ more t ts → ⊥
nothing_more t ts h = cc

more_first : (a b : Tree) (c d : Trees) → more a c ≡ more b d → a ≡ b
more_first a b c d h = cc

more_rest : (a b : Tree) (c d : Trees) → more a c ≡ more b d → c ≡ d
more_rest a b c d h = cc

pub list_one : {A : Type 0} (f : A → Tree) → ((a b : A) → f a ≡ f b → a ≡ b) → (xs ys : List A) → trees_of (map f xs) ≡ trees_of (map f ys) → xs ≡ ys
list_one f one [] [] h = refl
list_one f one [] (y ∷ ys) h = absurd (nothing_more (f y) (trees_of (map f ys)) h)
list_one f one (x ∷ xs) [] h = absurd (nothing_more (f x) (trees_of (map f xs)) (sym h))
list_one f one (x ∷ xs) (y ∷ ys) h =
    ap (λ z. z ∷ xs) (one x y (more_first (f x) (f y) (trees_of (map f xs)) (trees_of (map f ys)) h))
    ∙ ap (λ zs. y ∷ zs) (list_one f one xs ys (more_rest (f x) (f y) (trees_of (map f xs)) (trees_of (map f ys)) h))

uid_one : (a b : Uid) → a.0 ≡ b.0 → a ≡ b
uid_one a b h = ap uid h

pub element_one : (a b : Element) → saved_element a ≡ saved_element b → a ≡ b
element_one (Authority a) (Authority b) h = ap Authority (uid_one a b (number_one a.0 b.0 (named_second (number 0) (number a.0) (number 0) (number b.0) h)))
element_one (Authority a) And h = absurd (not_named 0 (number 0) (number a.0) (sym h))
element_one (Authority a) Or h = absurd (not_named 1 (number 0) (number a.0) (sym h))
element_one And (Authority b) h = absurd (not_named 0 (number 0) (number b.0) h)
element_one And And h = refl
element_one And Or h = absurd (zero_one (number_one 0 1 h)) where
  zero_one : ◌≡◌ {A = ℕ} 0 1 → ⊥
  zero_one h = cc
element_one Or (Authority b) h = absurd (not_named 1 (number 0) (number b.0) h)
element_one Or And h = absurd (zero_one (sym (number_one 1 0 h))) where
  zero_one : ◌≡◌ {A = ℕ} 0 1 → ⊥
  zero_one h = cc
element_one Or Or h = refl

pub column_one : (a b : Column) → number a.0 ≡ number b.0 → a ≡ b
column_one a b h = ap col (number_one a.0 b.0 h)

pub flag_one : (a b : Bool) → flag_tree a ≡ flag_tree b → a ≡ b
flag_one false false h = refl
flag_one false true h = absurd (zero_one (number_one 0 1 h)) where
  zero_one : ◌≡◌ {A = ℕ} 0 1 → ⊥
  zero_one h = cc
flag_one true false h = absurd (zero_one (sym (number_one 1 0 h))) where
  zero_one : ◌≡◌ {A = ℕ} 0 1 → ⊥
  zero_one h = cc
flag_one true true h = refl

bytes_one : (a b : List ℕ) → bytes a ≡ bytes b → a ≡ b
bytes_one a b h = cc

trees_one : (a b : Trees) → list a ≡ list b → a ≡ b
trees_one a b h = cc

-- two kinds are of no one value
other_kind : (i j : ℕ) (a b : Tree) → (i ≡ j → ⊥) → kind i a ≡ kind j b → ⊥
other_kind i j a b apart h = apart (number_one i j (named_first (number i) a (number j) b h))

content_one : (i j : ℕ) (a b : Tree) → kind i a ≡ kind j b → a ≡ b
content_one i j a b h = named_second (number i) a (number j) b h

resets_one : (r s : ResetTypes) → saved_cell (Numbers r) ≡ saved_cell (Numbers s) → r ≡ s
resets_one r s h = resets_same _ _ _ _ _ _ (flag_one r.power_cycle s.power_cycle (more_first _ _ _ _ flags)) (flag_one r.hardware s.hardware (more_first _ _ _ _ (more_rest _ _ _ _ flags)))
    (flag_one r.programmatic s.programmatic (more_first _ _ _ _ (more_rest _ _ _ _ (more_rest _ _ _ _ flags)))) where
      flags : trees_of (flag_tree r.power_cycle ∷ flag_tree r.hardware ∷ flag_tree r.programmatic ∷ []) ≡ trees_of (flag_tree s.power_cycle ∷ flag_tree s.hardware ∷ flag_tree s.programmatic ∷ [])
      flags = trees_one _ _ (content_one 3 3 _ _ h)

apart_01 : ◌≡◌ {A = ℕ} 0 1 → ⊥
apart_01 h = cc

apart_02 : ◌≡◌ {A = ℕ} 0 2 → ⊥
apart_02 h = cc

apart_03 : ◌≡◌ {A = ℕ} 0 3 → ⊥
apart_03 h = cc

apart_04 : ◌≡◌ {A = ℕ} 0 4 → ⊥
apart_04 h = cc

apart_05 : ◌≡◌ {A = ℕ} 0 5 → ⊥
apart_05 h = cc

apart_06 : ◌≡◌ {A = ℕ} 0 6 → ⊥
apart_06 h = cc

apart_12 : ◌≡◌ {A = ℕ} 1 2 → ⊥
apart_12 h = cc

apart_13 : ◌≡◌ {A = ℕ} 1 3 → ⊥
apart_13 h = cc

apart_14 : ◌≡◌ {A = ℕ} 1 4 → ⊥
apart_14 h = cc

apart_15 : ◌≡◌ {A = ℕ} 1 5 → ⊥
apart_15 h = cc

apart_16 : ◌≡◌ {A = ℕ} 1 6 → ⊥
apart_16 h = cc

apart_23 : ◌≡◌ {A = ℕ} 2 3 → ⊥
apart_23 h = cc

apart_24 : ◌≡◌ {A = ℕ} 2 4 → ⊥
apart_24 h = cc

apart_25 : ◌≡◌ {A = ℕ} 2 5 → ⊥
apart_25 h = cc

apart_26 : ◌≡◌ {A = ℕ} 2 6 → ⊥
apart_26 h = cc

apart_34 : ◌≡◌ {A = ℕ} 3 4 → ⊥
apart_34 h = cc

apart_35 : ◌≡◌ {A = ℕ} 3 5 → ⊥
apart_35 h = cc

apart_36 : ◌≡◌ {A = ℕ} 3 6 → ⊥
apart_36 h = cc

apart_45 : ◌≡◌ {A = ℕ} 4 5 → ⊥
apart_45 h = cc

apart_46 : ◌≡◌ {A = ℕ} 4 6 → ⊥
apart_46 h = cc

apart_56 : ◌≡◌ {A = ℕ} 5 6 → ⊥
apart_56 h = cc

pub cell_one : (a b : Cell) → saved_cell a ≡ saved_cell b → a ≡ b
cell_one (Number a) (Number b) h = ap Number (number_one a b (content_one 0 0 _ _ h))
cell_one (Number a) (Bytes b) h = absurd (other_kind 0 1 _ _ (λ e. absurd (apart_01 e)) h)
cell_one (Number a) (Object b) h = absurd (other_kind 0 2 _ _ (λ e. absurd (apart_02 e)) h)
cell_one (Number a) (Numbers b) h = absurd (other_kind 0 3 _ _ (λ e. absurd (apart_03 e)) h)
cell_one (Number a) (Expr b) h = absurd (other_kind 0 4 _ _ (λ e. absurd (apart_04 e)) h)
cell_one (Number a) (Columns b) h = absurd (other_kind 0 5 _ _ (λ e. absurd (apart_05 e)) h)
cell_one (Number a) (OneName b) h = absurd (other_kind 0 6 _ _ (λ e. absurd (apart_06 e)) h)
cell_one (Bytes a) (Number b) h = absurd (other_kind 1 0 _ _ (λ e. absurd (apart_01 (sym e))) h)
cell_one (Bytes a) (Bytes b) h = ap Bytes (bytes_one a b (content_one 1 1 _ _ h))
cell_one (Bytes a) (Object b) h = absurd (other_kind 1 2 _ _ (λ e. absurd (apart_12 e)) h)
cell_one (Bytes a) (Numbers b) h = absurd (other_kind 1 3 _ _ (λ e. absurd (apart_13 e)) h)
cell_one (Bytes a) (Expr b) h = absurd (other_kind 1 4 _ _ (λ e. absurd (apart_14 e)) h)
cell_one (Bytes a) (Columns b) h = absurd (other_kind 1 5 _ _ (λ e. absurd (apart_15 e)) h)
cell_one (Bytes a) (OneName b) h = absurd (other_kind 1 6 _ _ (λ e. absurd (apart_16 e)) h)
cell_one (Object a) (Number b) h = absurd (other_kind 2 0 _ _ (λ e. absurd (apart_02 (sym e))) h)
cell_one (Object a) (Bytes b) h = absurd (other_kind 2 1 _ _ (λ e. absurd (apart_12 (sym e))) h)
cell_one (Object a) (Object b) h = ap Object (uid_one a b (number_one a.0 b.0 (content_one 2 2 _ _ h)))
cell_one (Object a) (Numbers b) h = absurd (other_kind 2 3 _ _ (λ e. absurd (apart_23 e)) h)
cell_one (Object a) (Expr b) h = absurd (other_kind 2 4 _ _ (λ e. absurd (apart_24 e)) h)
cell_one (Object a) (Columns b) h = absurd (other_kind 2 5 _ _ (λ e. absurd (apart_25 e)) h)
cell_one (Object a) (OneName b) h = absurd (other_kind 2 6 _ _ (λ e. absurd (apart_26 e)) h)
cell_one (Numbers a) (Number b) h = absurd (other_kind 3 0 _ _ (λ e. absurd (apart_03 (sym e))) h)
cell_one (Numbers a) (Bytes b) h = absurd (other_kind 3 1 _ _ (λ e. absurd (apart_13 (sym e))) h)
cell_one (Numbers a) (Object b) h = absurd (other_kind 3 2 _ _ (λ e. absurd (apart_23 (sym e))) h)
cell_one (Numbers a) (Numbers b) h = ap Numbers (resets_one a b h)
cell_one (Numbers a) (Expr b) h = absurd (other_kind 3 4 _ _ (λ e. absurd (apart_34 e)) h)
cell_one (Numbers a) (Columns b) h = absurd (other_kind 3 5 _ _ (λ e. absurd (apart_35 e)) h)
cell_one (Numbers a) (OneName b) h = absurd (other_kind 3 6 _ _ (λ e. absurd (apart_36 e)) h)
cell_one (Expr a) (Number b) h = absurd (other_kind 4 0 _ _ (λ e. absurd (apart_04 (sym e))) h)
cell_one (Expr a) (Bytes b) h = absurd (other_kind 4 1 _ _ (λ e. absurd (apart_14 (sym e))) h)
cell_one (Expr a) (Object b) h = absurd (other_kind 4 2 _ _ (λ e. absurd (apart_24 (sym e))) h)
cell_one (Expr a) (Numbers b) h = absurd (other_kind 4 3 _ _ (λ e. absurd (apart_34 (sym e))) h)
cell_one (Expr a) (Expr b) h = ap Expr (list_one saved_element element_one a b (trees_one _ _ (content_one 4 4 _ _ h)))
cell_one (Expr a) (Columns b) h = absurd (other_kind 4 5 _ _ (λ e. absurd (apart_45 e)) h)
cell_one (Expr a) (OneName b) h = absurd (other_kind 4 6 _ _ (λ e. absurd (apart_46 e)) h)
cell_one (Columns a) (Number b) h = absurd (other_kind 5 0 _ _ (λ e. absurd (apart_05 (sym e))) h)
cell_one (Columns a) (Bytes b) h = absurd (other_kind 5 1 _ _ (λ e. absurd (apart_15 (sym e))) h)
cell_one (Columns a) (Object b) h = absurd (other_kind 5 2 _ _ (λ e. absurd (apart_25 (sym e))) h)
cell_one (Columns a) (Numbers b) h = absurd (other_kind 5 3 _ _ (λ e. absurd (apart_35 (sym e))) h)
cell_one (Columns a) (Expr b) h = absurd (other_kind 5 4 _ _ (λ e. absurd (apart_45 (sym e))) h)
cell_one (Columns a) (Columns b) h = ap Columns (list_one (λ column. number column.0) column_one a b (trees_one _ _ (content_one 5 5 _ _ h)))
cell_one (Columns a) (OneName b) h = absurd (other_kind 5 6 _ _ (λ e. absurd (apart_56 e)) h)
cell_one (OneName a) (Number b) h = absurd (other_kind 6 0 _ _ (λ e. absurd (apart_06 (sym e))) h)
cell_one (OneName a) (Bytes b) h = absurd (other_kind 6 1 _ _ (λ e. absurd (apart_16 (sym e))) h)
cell_one (OneName a) (Object b) h = absurd (other_kind 6 2 _ _ (λ e. absurd (apart_26 (sym e))) h)
cell_one (OneName a) (Numbers b) h = absurd (other_kind 6 3 _ _ (λ e. absurd (apart_36 (sym e))) h)
cell_one (OneName a) (Expr b) h = absurd (other_kind 6 4 _ _ (λ e. absurd (apart_46 (sym e))) h)
cell_one (OneName a) (Columns b) h = absurd (other_kind 6 5 _ _ (λ e. absurd (apart_56 (sym e))) h)
cell_one (OneName a) (OneName b) h = ap OneName (bytes_one a b (content_one 6 6 _ _ h))

pub item_one : (a b : Item) → item_tree a ≡ item_tree b → a ≡ b
item_one a b h = item_same _ _ _ _ _ _ (uid_one a.object b.object (number_one _ _ (named_first _ _ _ _ h)))
    (column_one a.column b.column (named_first _ _ _ _ (named_second _ _ _ _ h))) (cell_one a.value b.value (named_second _ _ _ _ (named_second _ _ _ _ h)))

some_true : false ≡ true → ⊥
some_true h = cc

-- a value of each of some numbers, which two functions give alike
pub each_one : (f g : ℕ → Tree) (ns : List ℕ) → trees_of (map f ns) ≡ trees_of (map g ns) → (n : ℕ) → list_any (nat_eq n) ns ≡ true → f n ≡ g n
each_one f g [] h n is = absurd (some_true is)
each_one f g (m ∷ ms) h n is = by (λ i. each_one f g ms (more_rest _ _ _ _ h) n i) (nat_eq n m) refl where
  head : f m ≡ g m
  head = more_first _ _ _ _ h

  same : nat_eq n m ≡ true → n ≡ m
  same e = grind (arith, nat_tests)

  other : nat_eq n m ≡ false → list_any (nat_eq n) ms ≡ true
  other e = grind (arith, nat_tests)

  by : (list_any (nat_eq n) ms ≡ true → f n ≡ g n) → (b : Bool) → nat_eq n m ≡ b → f n ≡ g n
  by later true e = ap f (same e) ∙ head ∙ sym (ap g (same e))
  by later false e = later (other e)

-- numbers that two functions tell apart alike
keys_one : (f g : ℕ → Tree) → ((m n : ℕ) → f m ≡ g n → m ≡ n) → (ms ns : List ℕ) → trees_of (map f ms) ≡ trees_of (map g ns) → ms ≡ ns
keys_one f g one [] [] h = refl
keys_one f g one [] (n ∷ ns) h = absurd (nothing_more _ _ h)
keys_one f g one (m ∷ ms) [] h = absurd (nothing_more _ _ (sym h))
keys_one f g one (m ∷ ms) (n ∷ ns) h = ap (λ k. k ∷ ms) (one m n (more_first _ _ _ _ h)) ∙ ap (λ ks. n ∷ ks) (keys_one f g one ms ns (more_rest _ _ _ _ h))

-- sectors that are written alike keep the same
sectors_one : (a b : StoredSectors) → IsSound a → IsSound b → a.sectors ≡ b.sectors → sectors_tree a ≡ sectors_tree b → a ≡ b
sectors_one a b sound also count h =
    let keys = trees_one _ _ h in
    keep_same a b sound also (record {
      sectors = count;
      kept = keys_one (sector_tree a) (sector_tree b) (λ m n is. number_one m n (named_first _ _ _ _ is)) (keys_of a.kept) (keys_of b.kept) keys;
      each = λ sector is. bytes_one _ _ (named_second _ _ _ _ (each_one (sector_tree a) (sector_tree b) (keys_of a.kept)
          (keys ∙ ap (λ ns. trees_of (map (sector_tree b) ns)) (sym (keys_one (sector_tree a) (sector_tree b) (λ m n is. number_one m n (named_first _ _ _ _ is)) (keys_of a.kept) (keys_of b.kept) keys))) sector is));
    })

profile_one : (a b : Profile) → saved_profile a ≡ saved_profile b → a ≡ b
profile_one Base Base h = refl
profile_one Base Field h = absurd (apart_01 h)
profile_one Base Opal h = absurd (apart_02 h)
profile_one Field Base h = absurd (apart_01 (sym h))
profile_one Field Field h = refl
profile_one Field Opal h = absurd (apart_12 h)
profile_one Opal Base h = absurd (apart_02 (sym h))
profile_one Opal Field h = absurd (apart_12 (sym h))
profile_one Opal Opal h = refl

-- the value at a place of a list
abbrev at : ℕ → Trees → Tree
at n empty = number 0
at zero (more t ts) = t
at (suc n) (more t ts) = at n ts

pub config_one : (a b : Config) → config_tree a ≡ config_tree b → a ≡ b
config_one a b h =
    let values = trees_one _ _ h in
    config_same _ _ _ _ _ _ _ _ _ _ _ _ _ _ _ _ _ _ (profile_one a.profile b.profile (number_one _ _ (ap (at 0) values))) (number_one _ _ (ap (at 1) values))
    (number_one _ _ (ap (at 2) values)) (bytes_one _ _ (ap (at 3) values)) (bytes_one _ _ (ap (at 4) values)) (bytes_one _ _ (ap (at 5) values))
    (bytes_one _ _ (ap (at 6) values)) (number_one _ _ (ap (at 7) values)) (number_one _ _ (ap (at 8) values))

-- two replies
reply_one : (a b : Trees) (status : List ℕ) (m : Result Message TokenError) → m ≡ Ok (reply a status) → m ≡ Ok (reply b status) → a ≡ b
reply_one a b status m h k = cc

pub one_rest_law : OneRestLaw
one_rest_law text a b whole also h k =
    let values = reply_one (saved a) (saved b) (0 ∷ 0 ∷ 0 ∷ []) (reading text) h k in
    let config = config_one a.tables.config b.tables.config (ap (at 2) values) in
    rest_same a.tables b.tables a.bytes b.bytes a.media b.media a.next b.next a.drawn b.drawn
    (contents_same a.tables.admin b.tables.admin a.tables.locking b.tables.locking a.tables.config b.tables.config
    (list_one item_tree item_one _ _ (trees_one _ _ (ap (at 3) values))) (list_one item_tree item_one _ _ (trees_one _ _ (ap (at 4) values))) config)
    (sectors_one a.bytes b.bytes whole.sound_bytes also.sound_bytes (whole.bytes ∙ ap table_sectors config ∙ sym also.bytes) (ap (at 5) values))
    (sectors_one a.media b.media whole.sound_media also.sound_media (whole.media ∙ ap (λ (c : Config). c.sectors) config ∙ sym also.media) (ap (at 6) values))
    (number_one _ _ (ap (at 7) values)) (number_one _ _ (ap (at 8) values))

-- two drives that the same bytes say are alike
pub same_drive_law : SameDriveLaw
same_drive_law text d e o acts one other k =
    same_rest_law other.rest d e o (log o acts) one.off other.off
    (subst (λ (r : Rest). KeepsRest r d) (one_rest_law text one.rest other.rest one.whole other.whole one.spells other.spells) one.rests) other.rests k
