mod Given
mod Lists
mod Numbers
