pub mod RowKeys
pub mod View
pub mod Edition
