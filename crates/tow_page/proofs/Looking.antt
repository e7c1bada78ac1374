-- What a look says of a map.
use Rattle.std.proofs.Common.{◌≡◌, ℕ, ◌-◌, Bool, true, false, not, ◌&&◌, ◌||◌, nat_lt, nat_eq, arith, suc, List, [], ◌∷◌, ◌++◌, length, drop, codes, refl, sym, ap, ap₂, subst, ◌∙◌, if◌then◌else◌, Option, Some, None, option_map, IfSome, IfOk, Result, IsPermutation}
use Rattle.std.proofs.lemmas.Option.{IfSome_then}
use Rattle.std.proofs.lemmas.Bool.Decides.{nat_tests}
use Rattle.std.proofs.lemmas.Slice.Eq.{bytes_eq-Decides}
use Rattle.std.specs.List.{list_all, list_any}
use Rattle.std.specs.Option.{unwrap_or, option_or}
use Rattle.std.specs.Str.{bytes_eq}
use Rattle.tow_model.specs.declared.request.Request.{Request}
use Rattle.tow_model.specs.declared.record.Record.{Record}
use Rattle.tow_model.specs.declared.page.Page.{Page}
use Rattle.tow_model.specs.declared.page.Page.TheVariants as pages
use Rattle.tow_model.specs.Texts.{Text, begins_with, cut_at, ends_in, is_among, is_empty}
use Rattle.tow_model.specs.Paths.{slash}
use Rattle.tow_folder.specs.Folders.{look_for, directory_of}
use Rattle.tow_folder.specs.declared.answers.Look.{Look}
use Rattle.tow_folder.specs.declared.answers.Look.TheVariants as look
use Rattle.tow_semantics.specs.Files as maps
use Rattle.tow_semantics.specs.Files.{File, Files, Name, are_apart, file_at, is_directory, is_directory_at, is_map, is_name, names_in}
use Rattle.tow_semantics.proofs.Children.{listings_are_names}
use Rattle.tow_semantics.specs.Pages.{Found, Serve, Redirect, Listing, Forbidden, NotModified, NotFound, BadMethod, page_for, served, welcome_file, welcome_names, directory_page, file_page, found_page, directory_location, is_servable, listing_of}
use Rattle.tow_page.specs.Answers.{AreOrdered, IsPage, IsPageOr, served_at}

-- two facts of the files of a folder that tells
pub of_both : {X : Type 0} (r : Option X) {P Q R : X → Type 0} → IfSome r P → IfSome r Q → ((x : X) → P x → Q x → R x) → IfSome r R
of_both None p q both = tt
of_both (Some x) p q both = both x p q

-- PAGES

own : (found : Found) → IsPage found (page_for found)
own (Serve path len second) = refl
own (Redirect location) = refl
own (Listing bytes) = refl
own Forbidden = refl
own (NotModified second) = refl
own NotFound = refl
own BadMethod = refl

pub is_page : (found : Found) (page : Page) → page ≡ page_for found → IsPage found page
is_page found page e = subst (IsPage found) (sym e) (own found)

-- FILES

left_of : (a b : Bool) → (a && b) ≡ true → a ≡ true
left_of true b is = refl
left_of false b is = is

right_of : (a b : Bool) → (a && b) ≡ true → b ≡ true
right_of true b is = is
right_of false b is = absurd (cc)

untrue : (a : Bool) → not a ≡ true → a ≡ false
untrue true is = sym is
untrue false is = refl

-- the file of the path has it
at_its_path : (files : Files) (path : Text) (f : File) → file_at files path ≡ Some f → f.path ≡ path
at_its_path [] path f e = absurd (cc)
at_its_path (g ∷ gs) path f e = by (bytes_eq g.path path) refl e (at_its_path gs path f)
  where
    by : (t : Bool) → bytes_eq g.path path ≡ t → (if t then Some g else file_at gs path) ≡ Some f → (file_at gs path ≡ Some f → f.path ≡ path) → f.path ≡ path
    by true same e h = let is : g ≡ f = cc in ap (λ h. h.path) (sym is) ∙ (bytes_eq-Decides g.path path).0 same
    by false same e h = h e

-- what holds of all files holds of the one at the path
of_all : (p : File → Bool) (files : Files) (path : Text) (f : File) → list_all p files ≡ true → file_at files path ≡ Some f → p f ≡ true
of_all p [] path f all e = absurd (cc)
of_all p (g ∷ gs) path f all e = by (bytes_eq g.path path) e (of_all p gs path f (right_of (p g) (list_all p gs) all))
  where
    by : (t : Bool) → (if t then Some g else file_at gs path) ≡ Some f → (file_at gs path ≡ Some f → p f ≡ true) → p f ≡ true
    by true e h = let is : g ≡ f = cc in ap p (sym is) ∙ left_of (p g) (list_all p gs) all
    by false e h = h e

abbrev or_directory : Bool → Look
or_directory t = look_for (if t then maps.ADirectory else maps.Absent)

never_file : (t : Bool) (len second : ℕ) → look.File len second ≡ or_directory t → ⊥
never_file true len second e = cc
never_file false len second e = cc

-- a look that gives a file: it is the one of the path
pub file_is : (files : Files) (q : Request) (x : Record) (path : Text) (len second : ℕ) →
    look.File len second ≡ look_for (maps.look files path) → option_map (served q x) (file_at files path) ≡ Some (served_at q x path len second)
file_is files q x path len second e = by (file_at files path) refl e
  where
    by : (r : Option File) → file_at files path ≡ r →
        look.File len second ≡ look_for (unwrap_or (option_map (λ f. maps.AFile (length f.bytes) f.second) r) (if is_directory_at files path then maps.ADirectory else maps.Absent)) →
        option_map (served q x) r ≡ Some (served_at q x path len second)
    by (Some f) at e =
        let path_is : f.path ≡ path = at_its_path files path f at in
        let len_is : length f.bytes ≡ len = cc in
        let second_is : f.second ≡ second = cc in
        ap Some (ap (λ p. served_at q x p (length f.bytes) f.second) path_is ∙ ap₂ (served_at q x path) len_is second_is)
    by None at e = absurd (never_file (is_directory_at files path) len second e)

-- another answer: there is no file
pub no_file : (files : Files) (path : Text) (other : Look) → ((len second : ℕ) → other ≡ look.File len second → ⊥) →
    other ≡ look_for (maps.look files path) → file_at files path ≡ None
no_file files path other none e = by (file_at files path) e
  where
    by : (r : Option File) →
        other ≡ look_for (unwrap_or (option_map (λ f. maps.AFile (length f.bytes) f.second) r) (if is_directory_at files path then maps.ADirectory else maps.Absent)) →
        r ≡ None
    by (Some f) e = absurd (none (length f.bytes) f.second e)
    by None e = refl

-- DIRECTORIES

own_not_below : (d : Text) → begins_with (d ++ codes "/") d ≡ false
own_not_below [] = refl
own_not_below (c ∷ d) = by (nat_eq c c) (own_not_below d)
  where
    by : (t : Bool) → begins_with (d ++ codes "/") d ≡ false → (t && begins_with (d ++ codes "/") d) ≡ false
    by true h = h
    by false h = refl

none_below : (d : Text) (g : File) (gs : Files) → g.path ≡ d → list_all (λ h. are_apart g.path h.path) gs ≡ true →
    list_any (λ h. begins_with (d ++ codes "/") h.path) gs ≡ false
none_below d g [] at all = refl
none_below d g (h ∷ gs) at all =
    let here : are_apart g.path h.path ≡ true = left_of (are_apart g.path h.path) (list_all (λ h. are_apart g.path h.path) gs) all in
    let apart : begins_with (g.path ++ codes "/") h.path ≡ false = parts (bytes_eq g.path h.path) (begins_with (g.path ++ codes "/") h.path) (begins_with (h.path ++ codes "/") g.path) here in
    neither (begins_with (d ++ codes "/") h.path) (list_any (λ h. begins_with (d ++ codes "/") h.path) gs)
    (ap (λ p. begins_with (p ++ codes "/") h.path) (sym at) ∙ apart)
    (none_below d g gs at (right_of (are_apart g.path h.path) (list_all (λ h. are_apart g.path h.path) gs) all))
  where
    parts : (a b c : Bool) → (not a && not b && not c) ≡ true → b ≡ false
    parts true b c is = absurd (cc)
    parts false true c is = absurd (cc)
    parts false false c is = refl

    neither : (a b : Bool) → a ≡ false → b ≡ false → (a || b) ≡ false
    neither true b l r = l
    neither false b l r = r

none_at : (d : Text) (f : File) (files : Files) → is_map files ≡ true → file_at files d ≡ Some f → is_directory files (d ++ codes "/") ≡ false
none_at d f [] all e = refl
none_at d f (g ∷ gs) all e =
    by (bytes_eq g.path d) refl e
    (none_at d f gs (right_of (is_name g.path && list_all (λ h. are_apart g.path h.path) gs) (is_map gs) all))
  where
    apart : list_all (λ h. are_apart g.path h.path) gs ≡ true
    apart = right_of (is_name g.path) (list_all (λ h. are_apart g.path h.path) gs) (left_of (is_name g.path && list_all (λ h. are_apart g.path h.path) gs) (is_map gs) all)

    neither : (a b : Bool) → a ≡ false → b ≡ false → (a || b) ≡ false
    neither true b l r = l
    neither false b l r = r

    parts : (a b c : Bool) → (not a && not b && not c) ≡ true → c ≡ false
    parts true b c is = absurd (cc)
    parts false true c is = absurd (cc)
    parts false false true is = absurd (cc)
    parts false false false is = refl

    by : (t : Bool) → bytes_eq g.path d ≡ t → (if t then Some g else file_at gs d) ≡ Some f →
        (file_at gs d ≡ Some f → is_directory gs (d ++ codes "/") ≡ false) → is_directory (g ∷ gs) (d ++ codes "/") ≡ false
    by true same e h =
        let at : g.path ≡ d = (bytes_eq-Decides g.path d).0 same in
        neither (begins_with (d ++ codes "/") g.path) (is_directory gs (d ++ codes "/"))
        (ap (λ p. begins_with (d ++ codes "/") p) at ∙ own_not_below d) (none_below d g gs at apart)
    by false same e h =
        let at : f.path ≡ d = at_its_path gs d f e in
        let other = of_all (λ h. are_apart g.path h.path) gs d f apart e in
        neither (begins_with (d ++ codes "/") g.path) (is_directory gs (d ++ codes "/"))
        (ap (λ p. begins_with (p ++ codes "/") g.path) (sym at)
        ∙ parts (bytes_eq g.path f.path) (begins_with (g.path ++ codes "/") f.path) (begins_with (f.path ++ codes "/") g.path) other) (h e)

not_root : (g : File) → is_name g.path ≡ true → bytes_eq g.path (codes "/") ≡ false
not_root g named = by (bytes_eq g.path (codes "/")) refl
  where
    by : (t : Bool) → bytes_eq g.path (codes "/") ≡ t → t ≡ false
    by true e = let root : is_name (codes "/") ≡ true = ap is_name (sym ((bytes_eq-Decides g.path (codes "/")).0 e)) ∙ named in absurd (cc)
    by false e = refl

none_root : (files : Files) → is_map files ≡ true → file_at files (codes "/") ≡ None
none_root [] all = refl
none_root (g ∷ gs) all =
    ap (λ (t : Bool). if t then Some g else file_at gs (codes "/")) (not_root g (left_of (is_name g.path) (list_all (λ h. are_apart g.path h.path) gs) (left_of (is_name g.path && list_all (λ h. are_apart g.path h.path) gs) (is_map gs) all)))
    ∙ none_root gs (right_of (is_name g.path && list_all (λ h. are_apart g.path h.path) gs) (is_map gs) all)

some_file : (n : ℕ) → nat_lt 0 (suc n) ≡ true
some_file n = grind (arith, nat_tests)

all_below_root : (files : Files) → is_map files ≡ true → is_directory files (codes "/") ≡ nat_lt 0 (length files)
all_below_root [] all = refl
all_below_root (g ∷ gs) all =
    let named = left_of (is_name g.path) (list_all (λ h. are_apart g.path h.path) gs) (left_of (is_name g.path && list_all (λ h. are_apart g.path h.path) gs) (is_map gs) all) in
    let rooted = left_of (begins_with (codes "/") g.path) (list_all (λ s. not (is_empty s)) (cut_at slash (drop 1 g.path))) named in
    ap (λ b. b || is_directory gs (codes "/")) rooted ∙ sym (some_file (length gs))

-- the answer says that there is a directory
abbrev pub says : Look → Bool
says (look.File len second) = false
says look.Directory = true
says look.Absent = false
says look.Failed = false

says_it : (t : Bool) → says (or_directory t) ≡ t
says_it true = refl
says_it false = refl

pub directory_is : (files : Files) → is_map files ≡ true → (d : Text) (r : Look) → r ≡ look_for (maps.look files d) →
    is_directory files (directory_of d) ≡ says r
directory_is files all d r e = by (bytes_eq d (codes "/")) (file_at files d) refl refl e
  where
    by : (t : Bool) (f : Option File) → bytes_eq d (codes "/") ≡ t → file_at files d ≡ f →
        r ≡ look_for (unwrap_or (option_map (λ f. maps.AFile (length f.bytes) f.second) f) (if (if t then nat_lt 0 (length files) else is_directory files (d ++ codes "/")) then maps.ADirectory else maps.Absent)) →
        is_directory files (if t then d else d ++ codes "/") ≡ says r
    by true None root at e =
        ap (is_directory files) ((bytes_eq-Decides d (codes "/")).0 root) ∙ all_below_root files all ∙ sym (says_it (nat_lt 0 (length files))) ∙ ap says (sym e)
    by true (Some f) root at e =
        let none : Some f ≡ None = sym at ∙ ap (file_at files) ((bytes_eq-Decides d (codes "/")).0 root) ∙ none_root files all in absurd (cc)
    by false None root at e = sym (says_it (is_directory files (d ++ codes "/"))) ∙ ap says (sym e)
    by false (Some f) root at e = none_at d f files all at ∙ ap says (sym e)

-- PAGES OF DIRECTORIES

-- the path of a look is no directory's
pub no_directory : (o : Option Files) (listing : Bool) (q : Request) (x : Record) (d directory : Text) (r : Look) → directory_of d ≡ directory →
    says r ≡ false → IfSome o (λ files. is_map files ≡ true) → IfSome o (λ files. r ≡ look_for (maps.look files d)) →
    IfSome o (λ files. IsPage (directory_page files listing q x directory) pages.NotFound)
no_directory o listing q x d directory r is other mapped looked =
    of_both o mapped looked (λ files m l.
    let none : is_directory files directory ≡ false = ap (is_directory files) (sym is) ∙ directory_is files m d r l ∙ other in
    is_page (directory_page files listing q x directory) pages.NotFound (sym (ap (λ (t : Bool). page_for (if t then unwrap_or (option_map (served q x) (welcome_file files directory welcome_names))
    (if listing then Listing (listing_of x.path (names_in files directory)) else Forbidden) else NotFound)) none)))

-- it is one, and what is found in it is the page
pub in_directory : (o : Option Files) (listing : Bool) (q : Request) (x : Record) (d directory : Text) (page : Page) → directory_of d ≡ directory →
    IfSome o (λ files. is_map files ≡ true) → IfSome o (λ files. look.Directory ≡ look_for (maps.look files d)) →
    IfSome o (λ files. IsPage (unwrap_or (option_map (served q x) (welcome_file files directory welcome_names))
    (if listing then Listing (listing_of x.path (names_in files directory)) else Forbidden)) page) →
    IfSome o (λ files. IsPage (directory_page files listing q x directory) page)
in_directory o listing q x d directory page is mapped looked found =
    of_both o (of_both o {R = λ files. is_directory files directory ≡ true} mapped looked
    (λ files m l. ap (is_directory files) (sym is) ∙ directory_is files m d look.Directory l)) found
    (λ files some f. subst (λ (t : Bool). IsPage (if t then unwrap_or (option_map (served q x) (welcome_file files directory welcome_names))
    (if listing then Listing (listing_of x.path (names_in files directory)) else Forbidden) else NotFound) page) (sym some) f)

-- WELCOME FILES

-- the name's file is the first one
pub welcome_hit : (files : Files) (q : Request) (x : Record) (directory name : Text) (more : List Text) (len second : ℕ) (page : Page) →
    look.File len second ≡ look_for (maps.look files (directory ++ name)) → page ≡ page_for (served_at q x (directory ++ name) len second) →
    (other : Found) → IsPage (unwrap_or (option_map (served q x) (welcome_file files directory (name ∷ more))) other) page
welcome_hit files q x directory name more len second page looked is other = by (file_at files (directory ++ name)) (file_is files q x (directory ++ name) len second looked)
  where
    by : (f : Option File) → option_map (served q x) f ≡ Some (served_at q x (directory ++ name) len second) →
        IsPage (unwrap_or (option_map (served q x) (option_or f (welcome_file files directory more))) other) page
    by (Some f) e = is_page (served q x f) page (is ∙ ap (λ r. page_for (unwrap_or r other)) (sym e))
    by None e = absurd (cc)

-- the name has no file
pub welcome_miss : (files : Files) (directory name : Text) (more : List Text) → file_at files (directory ++ name) ≡ None →
    welcome_file files directory (name ∷ more) ≡ welcome_file files directory more
welcome_miss files directory name more none = ap (λ (f : Option File). option_or f (welcome_file files directory more)) none

-- FROM LOOKS TO PAGES

pub file_page_is : (files : Files) (q : Request) (x : Record) (path : Text) (len second : ℕ) (page : Page) →
    look.File len second ≡ look_for (maps.look files path) → page ≡ page_for (served_at q x path len second) → IsPage (file_page files q x path) page
file_page_is files q x path len second page looked is =
    is_page (file_page files q x path) page
    (is ∙ ap (λ r. page_for (unwrap_or r (if is_directory files (path ++ codes "/") then Redirect (directory_location x) else NotFound)))
    (sym (file_is files q x path len second looked)))

-- another way to say what is found
pub found_is : {E : Type 0} (o : Option Files) (r : Result Page E) (F G : Files → Found) → ((files : Files) → G files ≡ F files) →
    IfSome o (λ files. IfOk r (IsPage (F files))) → IfSome o (λ files. IfOk r (IsPage (G files)))
found_is o r F G same h = IfSome_then o h (λ files p. subst (λ found. IfOk r (IsPage found)) (sym (same files)) p)

pub found_directory : (files : Files) (location : Text) (listing : Bool) (q : Request) (x : Record) →
    is_among q.method (codes "GET" ∷ codes "HEAD" ∷ []) ≡ true → is_servable (location ++ x.path) ≡ true → ends_in (codes "/") (location ++ x.path) ≡ true →
    found_page files location listing q x ≡ directory_page files listing q x (location ++ x.path)
found_directory files location listing q x reads servable ends =
    ap (λ t. if not t then BadMethod else (if not (is_servable (location ++ x.path)) then NotFound
    else (if ends_in (codes "/") (location ++ x.path) then directory_page files listing q x (location ++ x.path) else file_page files q x (location ++ x.path)))) reads
    ∙ ap (λ t. if not t then NotFound
    else (if ends_in (codes "/") (location ++ x.path) then directory_page files listing q x (location ++ x.path) else file_page files q x (location ++ x.path))) servable
    ∙ ap (λ t. if t then directory_page files listing q x (location ++ x.path) else file_page files q x (location ++ x.path)) ends

pub found_file : (files : Files) (location : Text) (listing : Bool) (q : Request) (x : Record) →
    is_among q.method (codes "GET" ∷ codes "HEAD" ∷ []) ≡ true → is_servable (location ++ x.path) ≡ true → ends_in (codes "/") (location ++ x.path) ≡ false →
    found_page files location listing q x ≡ file_page files q x (location ++ x.path)
found_file files location listing q x reads servable ends =
    ap (λ t. if not t then BadMethod else (if not (is_servable (location ++ x.path)) then NotFound
    else (if ends_in (codes "/") (location ++ x.path) then directory_page files listing q x (location ++ x.path) else file_page files q x (location ++ x.path)))) reads
    ∙ ap (λ t. if not t then NotFound
    else (if ends_in (codes "/") (location ++ x.path) then directory_page files listing q x (location ++ x.path) else file_page files q x (location ++ x.path))) servable
    ∙ ap (λ t. if t then directory_page files listing q x (location ++ x.path) else file_page files q x (location ++ x.path)) ends

-- the names that were given, in order, are those of the directory
pub listed : (files : Files) (path : Text) (x : Record) (names : List Name) (bytes : Text) (given : List Name) →
    IsPermutation (names_in files path) given → AreOrdered given names → bytes ≡ listing_of x.path names →
    IsPage (Listing (listing_of x.path (names_in files path))) (pages.Listing bytes)
listed files path x names bytes given moved ordered is =
    ap pages.Listing (is ∙ ap (listing_of x.path) (ordered (names_in files path) (listings_are_names files path).in_order moved))

-- AFTER THE WELCOME FILES

abbrev welcomed : Files → Request → Record → Text → Option Found
welcomed files q x directory = option_map (served q x) (welcome_file files directory welcome_names)

abbrev or_listed : Files → Bool → Record → Text → Found
or_listed files listing x directory = if listing then Listing (listing_of x.path (names_in files directory)) else Forbidden

-- one of them is there
pub of_welcome : (o before : Option Files) (listing : Bool) (q : Request) (x : Record) (directory : Text) (r : Option Page) (page : Page) → before ≡ o → r ≡ Some page →
    IfSome before (λ files. IsPageOr (option_map (served q x) (welcome_file files directory welcome_names)) r) →
    IfSome o (λ files. IsPage (unwrap_or (option_map (served q x) (welcome_file files directory welcome_names))
    (if listing then Listing (listing_of x.path (names_in files directory)) else Forbidden)) page)
of_welcome o before listing q x directory r page told some h =
    IfSome_then o (subst (λ (t : Option Page). IfSome o (λ files. IsPageOr (welcomed files q x directory) t)) some
    (subst (λ (t : Option Files). IfSome t (λ files. IsPageOr (welcomed files q x directory) r)) told h))
    (λ files p. p (or_listed files listing x directory))

-- none is there: the rest is the page
rest_is : (files : Files) (listing : Bool) (q : Request) (x : Record) (directory : Text) → is_directory files directory ≡ true → welcomed files q x directory ≡ None →
    directory_page files listing q x directory ≡ or_listed files listing x directory
rest_is files listing q x directory some none =
    ap (λ (t : Bool). if t then unwrap_or (welcomed files q x directory) (or_listed files listing x directory) else NotFound) some
    ∙ ap (λ w. unwrap_or w (or_listed files listing x directory)) none

no_welcome : (o before : Option Files) (q : Request) (x : Record) (d directory : Text) (r : Option Page) → before ≡ o → r ≡ None → directory_of d ≡ directory →
    IfSome o (λ files. is_map files ≡ true) → IfSome o (λ files. look.Directory ≡ look_for (maps.look files d)) →
    IfSome before (λ files. IsPageOr (option_map (served q x) (welcome_file files directory welcome_names)) r) →
    IfSome o (λ files. (listing : Bool) → directory_page files listing q x directory ≡ or_listed files listing x directory)
no_welcome o before q x d directory r told none is mapped looked h =
    of_both o (of_both o {R = λ files. is_directory files directory ≡ true} mapped looked
    (λ files m l. ap (is_directory files) (sym is) ∙ directory_is files m d look.Directory l))
    (subst (λ (t : Option Page). IfSome o (λ files. IsPageOr (welcomed files q x directory) t)) none
    (subst (λ (t : Option Files). IfSome t (λ files. IsPageOr (welcomed files q x directory) r)) told h))
    (λ files some n listing. rest_is files listing q x directory some n)

pub of_listing : {E : Type 0} (o before last : Option Files) (listing : Bool) (q : Request) (x : Record) (d directory : Text) (r : Option Page) (result : Result Page E) →
    before ≡ o → r ≡ None → last ≡ o → directory_of d ≡ directory → listing ≡ true →
    IfSome o (λ files. is_map files ≡ true) → IfSome o (λ files. look.Directory ≡ look_for (maps.look files d)) →
    IfSome before (λ files. IsPageOr (option_map (served q x) (welcome_file files directory welcome_names)) r) →
    IfSome last (λ files. IfOk result (IsPage (Listing (listing_of x.path (names_in files (directory_of d)))))) →
    IfSome o (λ files. IfOk result (IsPage (directory_page files listing q x directory)))
of_listing o before last listing q x d directory r result told none later is allowed mapped looked h l =
    of_both o (no_welcome o before q x d directory r told none is mapped looked h)
    (subst (λ (t : Option Files). IfSome t (λ files. IfOk result (IsPage (Listing (listing_of x.path (names_in files (directory_of d))))))) later l)
    (λ files e p. subst (λ found. IfOk result (IsPage found))
    (ap (λ t. Listing (listing_of x.path (names_in files t))) is
    ∙ sym (e listing ∙ ap (λ (t : Bool). or_listed files t x directory) allowed)) p)

pub of_forbidden : (o before : Option Files) (listing : Bool) (q : Request) (x : Record) (d directory : Text) (r : Option Page) →
    before ≡ o → r ≡ None → directory_of d ≡ directory → listing ≡ false →
    IfSome o (λ files. is_map files ≡ true) → IfSome o (λ files. look.Directory ≡ look_for (maps.look files d)) →
    IfSome before (λ files. IsPageOr (option_map (served q x) (welcome_file files directory welcome_names)) r) →
    IfSome o (λ files. IsPage (directory_page files listing q x directory) pages.Forbidden)
of_forbidden o before listing q x d directory r told none is refused mapped looked h =
    IfSome_then o (no_welcome o before q x d directory r told none is mapped looked h)
    (λ files e. is_page (directory_page files listing q x directory) pages.Forbidden
    (sym (ap page_for (e listing ∙ ap (λ (t : Bool). or_listed files t x directory) refused))))
