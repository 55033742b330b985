pub mod TextLaws
pub mod FieldLaws
pub mod LayoutLaws
pub mod RecordLaws
pub mod TicketLaws
