-- Files that are written one after the other.
use Rattle.std.proofs.Common.{◌≡◌, ◌≢◌, ◌≤◌, ℕ, List, [], ◌∷◌, ◌++◌, Option, Some, None, inl, inr, refl, sym, ap, ◌∙◌, map, append_assoc, arith}
use Rattle.std.specs.List.{AllByRecursion}
use Rattle.std.proofs.lemmas.List.{map-append, append-nil}
use Rattle.wiz_tool.specs.declared.writing.Unwritten.{Unwritten}
use Rattle.wiz_tool.specs.declared.writing.Unwritten.TheVariants.{Failed, OutOfMemory}
use Rattle.wiz_tool.specs.Files.{AreWritten, AreWrittenUpTo, ArePartlyWritten, ChangesNone, IsStoppedAt, NamedFile}
use Rattle.wiz_tool.specs.inside.Told.{IsStopped}
use Rattle.wiz_io.specs.Files.{ChangesOnly, Files, ObservedFiles, HasFile, HasRisen}

-- each name is apart from each of the others
abbrev pub AreApart : List (List ℕ) → List (List ℕ) → Type 0
AreApart names others = AllByRecursion (λ name. AllByRecursion (λ other. name ≢ other) others) names

abbrev pub names_of : List NamedFile → List (List ℕ)
names_of files = map (λ (file : NamedFile). file.name) files

all_front : {X : Type 0} (P : X → Type 0) (xs ys : List X) → AllByRecursion P (xs ++ ys) → AllByRecursion P xs
all_front P [] ys all = tt
all_front P (x ∷ xs) ys all = (all.0, all_front P xs ys all.1)

all_back : {X : Type 0} (P : X → Type 0) (xs ys : List X) → AllByRecursion P (xs ++ ys) → AllByRecursion P ys
all_back P [] ys all = all
all_back P (x ∷ xs) ys all = all_back P xs ys all.1

all_both : {X : Type 0} (P : X → Type 0) (xs ys : List X) → AllByRecursion P xs → AllByRecursion P ys → AllByRecursion P (xs ++ ys)
all_both P [] ys front back = back
all_both P (x ∷ xs) ys front back = (front.0, all_both P xs ys front.1 back)

apart_front : (names others more : List (List ℕ)) → AreApart names (others ++ more) → AreApart names others
apart_front [] others more apart = tt
apart_front (name ∷ names) others more apart = (all_front (λ other. name ≢ other) others more apart.0, apart_front names others more apart.1)

-- a file that is not named stays
stays : (before after : Option Files) (names : List (List ℕ)) (name bytes : List ℕ) → ChangesNone before after names → AllByRecursion (λ other. name ≢ other) names → HasFile before name bytes → HasFile after name bytes
stays None after names name bytes none apart has = rw none tt
stays (Some before) None names name bytes none apart has = absurd none
stays (Some before) (Some after) names name bytes none apart has = none name apart ∙ has

all_stay : (before after : Option Files) (files : List NamedFile) (names : List (List ℕ)) → ChangesNone before after names → AreApart (names_of files) names
    → AllByRecursion (λ (file : NamedFile). HasFile before file.name file.bytes) files → AllByRecursion (λ (file : NamedFile). HasFile after file.name file.bytes) files
all_stay before after [] names none apart has = tt
all_stay before after (file ∷ files) names none apart has = (stays before after names file.name file.bytes none apart.0 has.0, all_stay before after files names none apart.1 has.1)

changes_both : (before mid after : Option Files) (names more : List (List ℕ)) → ChangesNone before mid names → ChangesNone mid after more → ChangesNone before after (names ++ more)
changes_both None mid after names more first second = rw first at second
changes_both (Some before) None after names more first second = absurd first
changes_both (Some before) (Some mid) None names more first second = absurd second
changes_both (Some before) (Some mid) (Some after) names more first second = λ other apart.
    second other (all_back (λ name. other ≢ name) names more apart) ∙ first other (all_front (λ name. other ≢ name) names more apart)

pub changes_none : (before : Option Files) → ChangesNone before before []
changes_none None = refl
changes_none (Some before) = λ other apart. refl

pub AreWritten-none : (before : Option Files) → AreWritten before before [] []
AreWritten-none before = record { written = tt; unchanged = changes_none before }

-- files after files
pub AreWritten-append : (before mid after : Option Files) (front behind : List NamedFile) (others : List (List ℕ))
    → AreWritten before mid front [] → AreWritten mid after behind others → AreApart (names_of front) (names_of behind ++ others)
    → AreWritten before after (front ++ behind) others
AreWritten-append before mid after front behind others first second apart =
    let more : ChangesNone before after ((names_of front ++ []) ++ (names_of behind ++ others)) = changes_both before mid after (names_of front ++ []) (names_of behind ++ others) first.unchanged second.unchanged in
    let same : (names_of front ++ []) ++ (names_of behind ++ others) ≡ names_of (front ++ behind) ++ others =
    ap (λ names. names ++ (names_of behind ++ others)) (append-nil (names_of front)) ∙ sym (append_assoc (names_of front) (names_of behind) others)
    ∙ ap (λ names. names ++ others) (sym (map-append (λ (file : NamedFile). file.name) front behind)) in
    record {
      written = all_both (λ (file : NamedFile). HasFile after file.name file.bytes) front behind
          (all_stay mid after front (names_of behind ++ others) second.unchanged apart first.written) second.written;
      unchanged = rw same at more;
    }

-- where the files of the front are written, and the writing of the later ones stops
names_apart : (names front : List (List ℕ)) (name : List ℕ) (behind : List (List ℕ)) → AreApart names (front ++ name ∷ behind) → AreApart names (front ++ name ∷ [])
names_apart [] front name behind apart = tt
names_apart (one ∷ names) front name behind apart = (
  all_both (λ other. one ≢ other) front (name ∷ []) (all_front (λ other. one ≢ other) front (name ∷ behind) apart.0)
      ((all_back (λ other. one ≢ other) front (name ∷ behind) apart.0).0, tt),
  names_apart names front name behind apart.1,
)

IsStoppedAt-behind : (before mid after : Option Files) (front behind : List NamedFile) (name : List ℕ) → AreWritten before mid front [] → IsStoppedAt mid after behind name
    → AreApart (names_of front) (names_of behind) → IsStoppedAt before after (front ++ behind) name
IsStoppedAt-behind before mid after front behind name first stopped apart =
    let split : names_of behind ≡ names_of stopped.front ++ name ∷ names_of stopped.behind =
    ap names_of stopped.are ∙ map-append (λ (file : NamedFile). file.name) stopped.front (stopped.file ∷ stopped.behind)
    ∙ ap (λ n. names_of stopped.front ++ n ∷ names_of stopped.behind) stopped.named in
    let apart_up : AreApart (names_of front) (names_of stopped.front ++ name ∷ []) = names_apart (names_of front) (names_of stopped.front) name (names_of stopped.behind) (rw split at apart) in
    record {
      front = front ++ stopped.front;
      file = stopped.file;
      behind = stopped.behind;
      are = ap (λ files. front ++ files) stopped.are ∙ sym (append_assoc front stopped.front (stopped.file ∷ stopped.behind));
      named = stopped.named;
      up_to = AreWritten-append before mid after front stopped.front (name ∷ []) first stopped.up_to apart_up;
    }

AreWrittenUpTo-behind : (before mid after : Option Files) (front behind : List NamedFile) → AreWritten before mid front [] → AreWrittenUpTo mid after behind
    → AreApart (names_of front) (names_of behind) → AreWrittenUpTo before after (front ++ behind)
AreWrittenUpTo-behind before mid after front behind first up apart =
    let split : names_of behind ≡ names_of up.front ++ names_of up.behind = ap names_of up.are ∙ map-append (λ (file : NamedFile). file.name) up.front up.behind in
    let fewer : AreApart (names_of front) (names_of up.front) = apart_front (names_of front) (names_of up.front) (names_of up.behind) (rw split at apart) in
    record {
      front = front ++ up.front;
      behind = up.behind;
      are = ap (λ files. front ++ files) up.are ∙ sym (append_assoc front up.front up.behind);
      up_to = AreWritten-append before mid after front up.front [] first up.up_to (rw (append-nil (names_of up.front)) fewer);
    }

ArePartlyWritten-behind : (before mid after : Option Files) (front behind : List NamedFile) → AreWritten before mid front [] → ArePartlyWritten mid after behind
    → AreApart (names_of front) (names_of behind) → ArePartlyWritten before after (front ++ behind)
ArePartlyWritten-behind before mid after front behind first (inl up) apart = inl (AreWrittenUpTo-behind before mid after front behind first up apart)
ArePartlyWritten-behind before mid after front behind first (inr at) apart = inr (at.0, IsStoppedAt-behind before mid after front behind at.0 first at.1 apart)

pub HasRisen-earlier : (before mid after : ℕ) → before ≤ mid → HasRisen mid after → HasRisen before after
HasRisen-earlier before mid after earlier risen = omega (arith, earlier, risen)

pub IsStopped-behind : (before mid after : ObservedFiles) (front behind : List NamedFile) (why : Unwritten)
    → AreWritten before.files mid.files front [] → IsStopped mid after behind why → before.writes ≤ mid.writes → AreApart (names_of front) (names_of behind)
    → IsStopped before after (front ++ behind) why
IsStopped-behind before mid after front behind (Failed name) first stopped later apart = (
  HasRisen-earlier before.writes mid.writes after.writes later stopped.0,
  IsStoppedAt-behind before.files mid.files after.files front behind _ first stopped.1 apart,
)
IsStopped-behind before mid after front behind OutOfMemory first stopped later apart =
    ArePartlyWritten-behind before.files mid.files after.files front behind first stopped apart

-- where the writing of the front stops already
IsStoppedAt-front : (before after : Option Files) (front behind : List NamedFile) (name : List ℕ) → IsStoppedAt before after front name → IsStoppedAt before after (front ++ behind) name
IsStoppedAt-front before after front behind name stopped = record {
  front = stopped.front;
  file = stopped.file;
  behind = stopped.behind ++ behind;
  are = ap (λ files. files ++ behind) stopped.are ∙ append_assoc stopped.front (stopped.file ∷ stopped.behind) behind;
  named = stopped.named;
  up_to = stopped.up_to;
}

AreWrittenUpTo-front : (before after : Option Files) (front behind : List NamedFile) → AreWrittenUpTo before after front → AreWrittenUpTo before after (front ++ behind)
AreWrittenUpTo-front before after front behind up = record {
  front = up.front;
  behind = up.behind ++ behind;
  are = ap (λ files. files ++ behind) up.are ∙ append_assoc up.front up.behind behind;
  up_to = up.up_to;
}

pub IsStopped-front : (before after : ObservedFiles) (front behind : List NamedFile) (why : Unwritten) → IsStopped before after front why
    → IsStopped before after (front ++ behind) why
IsStopped-front before after front behind (Failed name) stopped = (stopped.0, IsStoppedAt-front before.files after.files front behind _ stopped.1)
IsStopped-front before after front behind OutOfMemory (inl up) = inl (AreWrittenUpTo-front before.files after.files front behind up)
IsStopped-front before after front behind OutOfMemory (inr at) = inr (at.0, IsStoppedAt-front before.files after.files front behind at.0 at.1)

-- one file
only_this : (before after : Option Files) (name : List ℕ) → ChangesOnly before after name → ChangesNone before after (name ∷ [])
only_this None after name only = only
only_this (Some before) None name only = only
only_this (Some before) (Some after) name only = λ other apart. only other apart.0

pub AreWritten-one : (before after : Option Files) (name bytes : List ℕ) → HasFile after name bytes → ChangesOnly before after name → AreWritten before after ((record { name = name; bytes = bytes }) ∷ []) []
AreWritten-one before after name bytes has only = record { written = (has, tt); unchanged = only_this before after name only }

pub IsStoppedAt-one : (before after : Option Files) (name bytes : List ℕ) → ChangesOnly before after name → IsStoppedAt before after ((record { name = name; bytes = bytes }) ∷ []) name
IsStoppedAt-one before after name bytes only = record {
  front = [];
  file = record { name = name; bytes = bytes };
  behind = [];
  are = refl;
  named = refl;
  up_to = record { written = tt; unchanged = only_this before after name only };
}

-- nothing is written yet
pub ArePartlyWritten-none : (before : Option Files) (files : List NamedFile) → ArePartlyWritten before before files
ArePartlyWritten-none before files = inl (record { front = []; behind = files; are = refl; up_to = AreWritten-none before })
