-- The number and the name of each cause in reports.
use Rattle.std.specs.Prelude.{ℕ, List, codes}
use Rattle.zy_base.specs.declared.cause.Cause.{Cause}
use Rattle.zy_base.specs.declared.cause.Cause.TheVariants.{NotFrame, UnknownParty, BadSignature, WrongRole, OldView, NewerView, NotActive, OldPlace, WrongHead, OldStamp, WindowFull, Repeat, TooFew, Mixed, Unmatched, NoConflict, AnchorClash, BadReport, OtherHistory, Behind, BelowStable, WrongState, KeySpent, Finished, NotState, Waiting, NoSubject}

abbrev pub number_of : Cause → ℕ
number_of (NotFrame _) = 1
number_of UnknownParty = 2
number_of BadSignature = 3
number_of WrongRole = 4
number_of OldView = 5
number_of NewerView = 6
number_of NotActive = 7
number_of OldPlace = 8
number_of WrongHead = 9
number_of OldStamp = 10
number_of (WindowFull _) = 11
number_of Repeat = 12
number_of (TooFew _) = 13
number_of Mixed = 14
number_of Unmatched = 15
number_of NoConflict = 16
number_of (AnchorClash _ _) = 17
number_of (BadReport _) = 18
number_of (OtherHistory _ _) = 19
number_of (Behind _) = 20
number_of (BelowStable _ _) = 21
number_of (WrongState _ _) = 22
number_of KeySpent = 23
number_of Finished = 24
number_of NotState = 25
number_of (Waiting _) = 26
number_of NoSubject = 27

abbrev pub name_of : Cause → List ℕ
name_of (NotFrame _) = codes "NotFrame"
name_of UnknownParty = codes "UnknownParty"
name_of BadSignature = codes "BadSignature"
name_of WrongRole = codes "WrongRole"
name_of OldView = codes "OldView"
name_of NewerView = codes "NewerView"
name_of NotActive = codes "NotActive"
name_of OldPlace = codes "OldPlace"
name_of WrongHead = codes "WrongHead"
name_of OldStamp = codes "OldStamp"
name_of (WindowFull _) = codes "WindowFull"
name_of Repeat = codes "Repeat"
name_of (TooFew _) = codes "TooFew"
name_of Mixed = codes "Mixed"
name_of Unmatched = codes "Unmatched"
name_of NoConflict = codes "NoConflict"
name_of (AnchorClash _ _) = codes "AnchorClash"
name_of (BadReport _) = codes "BadReport"
name_of (OtherHistory _ _) = codes "OtherHistory"
name_of (Behind _) = codes "Behind"
name_of (BelowStable _ _) = codes "BelowStable"
name_of (WrongState _ _) = codes "WrongState"
name_of KeySpent = codes "KeySpent"
name_of Finished = codes "Finished"
name_of NotState = codes "NotState"
name_of (Waiting _) = codes "Waiting"
name_of NoSubject = codes "NoSubject"
